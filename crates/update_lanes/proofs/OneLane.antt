-- A run of one lane is Update of that lane.
use mathlib.Core.Path.{◌≡◌, refl, sym, ap, ◌∙◌}
use mathlib.Core.Bool.{false, not, or-false}
use mathlib.Core.List.{List, [], ◌∷◌}
use Prim.Native.Nat.{ℕ, zero, suc, ◌+◌, ◌*◌, ◌/◌}
use native.Mathlib.Nat.{one-mul, add-zero}
use native.Mathlib.Omega.{arith}
use borrow.Author.Tests.{ltb-true, leb-true, lt-ltb, le-leb, ltb-false, eq-eqb}
use lib.Dec.{ltb, leb}
use lib.ListN.{length}
use Rattle.lists.specs.Choice.{first_of}
use Rattle.lists.specs.Numbers.{all_below}
use Rattle.lists.proofs.Cases.{same_test, by_test}
use Rattle.lists.specs.Rows.{from}
use Rattle.layout.specs.Layout.{share_layout}
use Rattle.layout.specs.Width.{symbol_at, symbols_of}
use Rattle.std.proofs.Math.Nat.{div_self}
use Rattle.generator.specs.declared.Header.{Header}
use Rattle.generator.specs.Records.{size, width}
use Rattle.generator.proofs.Widths.{width_some}
use Rattle.refusals.specs.Conditions.{length_bad, number_bad, symbol_bad, symbols_bad}
use Rattle.blocks.specs.Bytes.{updated_bytes, altered_count}
use Rattle.update.specs.Promise.{input_fault, update_fault}
use Rattle.update_lanes.specs.Runs.{first_number, any_from, run_updated, run_bytes, run_count}
use Rattle.update_lanes.specs.Promise.{run_input_fault, run_fault}

-- a number with none behind it
first_alone : (a : ℕ) → first_of a 0 ≡ a
first_alone zero = refl
first_alone (suc a) = refl

module _ (h : Header) where
  -- a buffer of one symbol
  one_length : (s : List ℕ) → length s ≡ width h → length s / width h ≡ 1
  one_length s one = ap (λ (x : ℕ). x / width h) one ∙ div_self (width_some h)

  one_symbol : (s : List ℕ) → length s ≡ width h → symbols_of (width h) s ≡ symbol_at (width h) s 0 ∷ []
  unfolding symbols_of from
  one_symbol s one = ap (from (symbol_at (width h) s) 0) (one_length s one)

  -- its tests
  one_long : (s : List ℕ) → length s ≡ width h → length_bad (1 * width h) (length s) ≡ false
  unfolding length_bad
  one_long s one = rw (one, one-mul, eq-eqb (width h) (width h) refl)

  one_bad : (s : List ℕ) → length s ≡ width h → symbols_bad h s ≡ symbol_bad h (symbol_at (width h) s 0)
  unfolding symbols_bad symbol_bad all_below
  one_bad s one =
      let x = symbol_at (width h) s 0 in
      ap (λ (u : List ℕ). not (all_below (size h) u)) (one_symbol s one)
      ∙ by_test (ltb x (size h))
      (λ t. rw (t, sym (same_test false (leb (size h) x) (λ e. absurd cc) (λ e. absurd (omega (arith, leb-true (size h) x e, ltb-true x (size h) t))))) refl)
      (λ t. rw (t, le-leb (size h) x (ltb-false x (size h) t)) refl)

  -- the run ends within the block just if its lane lies there
  one_inside : (l t : ℕ) → ltb l (t + 1) ≡ number_bad l t
  unfolding number_bad
  one_inside l t = same_test (ltb l (t + 1)) (leb l t) (λ e. le-leb l t (omega (arith, ltb-true l (t + 1) e))) (λ e. lt-ltb l (t + 1) (omega (arith, leb-true l t e)))

module _ (h : Header) (l r t : ℕ) (old new shares : List ℕ) (one : length old ≡ width h) (other : length new ≡ width h) where
  abbrev before : ℕ
  before = symbol_at (width h) old 0

  abbrev after : ℕ
  after = symbol_at (width h) new 0

  pub one_input_fault : run_input_fault h l r t old new shares ≡ input_fault share_layout h l r t before after shares
  unfolding run_input_fault input_fault any_from
  one_input_fault = rw (one_length h old one, one_long h old one, one_long h new other, one_inside h l t, one_bad h old one, one_bad h new other, add-zero) (rw or-false)

  pub one_fault : run_fault h l r t old new shares ≡ update_fault share_layout h l r t before after shares
  unfolding run_fault update_fault first_number
  one_fault = rw (one_input_fault, one_length h old one, one_symbol h old one, add-zero, first_alone) refl

  pub one_bytes : run_bytes h l r t old new shares ≡ updated_bytes share_layout h l r t before after shares
  unfolding run_bytes updated_bytes run_updated
  one_bytes = rw (one_length h old one, one_symbol h old one, one_symbol h new other, add-zero) refl

  pub one_count : run_count h l r t old new shares ≡ altered_count share_layout h l r t before after shares
  unfolding run_count altered_count run_updated
  one_count = rw (one_length h old one, one_symbol h old one, one_symbol h new other, add-zero) refl
