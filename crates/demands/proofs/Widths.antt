-- Symbols in lent buffers: the sentences, proved.
use mathlib.Core.Path.{◌≡◌, refl, ◌∙◌}
use mathlib.Core.Logic.{◌≢◌, inl, inr}
use mathlib.Core.List.{List}
use Prim.Native.Nat.{ℕ, ◌≤◌, ◌<◌}
use native.Mathlib.Omega.{arith}
use borrow.Author.Tests.{eq-eqb, ne_eqb, eqb-true, leb-true, leb-false}
use lib.Dec.{eqb, leb}
use lib.ListN.{get_or}
use Rattle.lists.proofs.Cases.{by_test}
use Rattle.layout.proofs.Readings.{symbol_pair}
use Rattle.layout.proofs.Widths.{get_or_symbols, symbols_one, symbols_bytes}
use Rattle.field.specs.Fields.{size_of}
use Rattle.field.specs.Kinds.{modulus}
use Rattle.field.proofs.Widths.{one_byte, two_bytes}
use Rattle.generator.specs.Records.{pair_at, header_of, record_fault, width}
use Rattle.generator.proofs.Widths.{width_some}
use Rattle.demands.specs.Judging.{Met}
use Rattle.demands.specs.Numbers.{kind, record_numbers}
use Rattle.demands.specs.Widths.{Widths}
use Rattle.demands.proofs.RecordNumbers.{record_tells}

module _ (rec : List ℕ) (none : record_fault rec ≡ 0) where
  -- number 3 is not met
  not_three : Met (record_numbers rec) 3 → ⊥
  not_three met = omega (arith, ((record_tells rec).least 3 met).0)

  small : kind rec ≡ 1 → get_or rec 1 0 ≤ 251
  small one =
      by_test (leb (get_or rec 1 0) 251) (leb-true (get_or rec 1 0) 251)
      (λ t. let above : 251 < get_or rec 1 0 = leb-false (get_or rec 1 0) 251 t in absurd (not_three (inr (inr (inl (refl, inl (one, λ p. omega (arith, p.below))))))))

  large : kind rec ≡ 3 → 257 ≤ pair_at rec 1
  large three =
      by_test (leb 257 (pair_at rec 1)) (leb-true 257 (pair_at rec 1))
      (λ t. let below : pair_at rec 1 < 257 = leb-false 257 (pair_at rec 1) t in absurd (not_three (inr (inr (inl (refl, inr (three, λ p. omega (arith, p.above))))))))

  small_size : (p : ℕ) → p ≤ 256 → size_of p ≤ 256
  unfolding size_of
  small_size p low = by_test (eqb p 0) (λ t. rw t (omega arith)) (λ t. rw t low)

  large_size : (p : ℕ) → 257 ≤ p → 256 < size_of p
  unfolding size_of
  large_size p high = rw (ne_eqb p 0 (λ e. omega arith)) high

  width_one : kind rec ≢ 3 → width (header_of rec) ≡ 1
  unfolding width header_of modulus
  width_one other =
      by_test (eqb (kind rec) 1)
      (λ t. rw t (one_byte (get_or rec 1 0) (small_size (get_or rec 1 0) (omega (arith, small (eqb-true _ 1 t))))))
      (λ t. rw (t, ne_eqb (kind rec) 3 other) (one_byte 0 (small_size 0 (omega arith))))

  width_two : kind rec ≡ 3 → width (header_of rec) ≡ 2
  unfolding width header_of modulus
  width_two three = rw (ne_eqb (kind rec) 1 (λ e. omega arith), eq-eqb (kind rec) 3 three) (two_bytes (pair_at rec 1) (large_size (pair_at rec 1) (large three)))

  pub widths : Widths rec
  widths =
      record {
        one = λ other s. rw (width_one other) (symbols_one s);
        two = λ three s i inside. rw (width_two three) (get_or_symbols 2 s i (omega arith) ∙ symbol_pair s i inside);
        again = λ xs. symbols_bytes (width (header_of rec)) xs (width_some (header_of rec));
      }
