-- The scheme of an accepted plan: it is one, it is tight, and no scheme costs less.
use mathlib.Core.Path.{◌≡◌, refl, sym, ap, ap₂, ◌∙◌}
use mathlib.Core.Logic.{◌≢◌, ◌↔◌}
use mathlib.Core.Bool.{true, not, or-true}
use mathlib.Core.List.{List, [], ◌∷◌, map}
use Prim.Native.Nat.{ℕ, Fin}
use native.Mathlib.Omega.{arith}
use native.Mathlib.Decide.{ℕ_discrete}
use borrow.Author.Tests.{eq-eqb, ne_eqb, eqb-false, not-true}
use lib.Dec.{eqb}
use lib.ListN.{length, get_or, set}
use Rattle.lists.specs.Numbers.{all_below, is_in, distinct}
use Rattle.std.proofs.lemmas.Bool.{and_from}
use Rattle.lists.proofs.Numbers.{is_in_below}
use Rattle.field.specs.Symbols.{Symbol, numbers}
use Rattle.field.proofs.Symbols.{symbol, symbol_below, symbol_path, get_or_numbers, numbers_path}
use Rattle.field.proofs.Bounds.{one_below}
use Rattle.field.proofs.FieldOf.{size_pos}
use Rattle.scheme.specs.Messages.{Message, symbols, Change}
use Rattle.scheme.specs.Schemes.{Scheme, Altered}
use Rattle.scheme.specs.Costs.{Tight, CostsAtLeast}
use Rattle.scheme.proofs.Messages.{length_symbols, get_or_symbols, symbols_change, list_scheme}
use Rattle.scheme.proofs.Tightness.{tight, tight_least}
use Rattle.generator.specs.declared.Header.{Header}
use Rattle.generator.specs.Records.{modulus_of, size, distance, low_reads, high_reads, Sound}
use Rattle.generator.specs.Generator.{entry}
use Rattle.generator.specs.Codewords.{node_of}
use Rattle.generator.specs.Claims.{is_message, are_nodes, reads, OurScheme}
use Rattle.generator.proofs.Recovery.{numbers_message, one_message}
use Rattle.generator.proofs.Changes.{map_set, altered_entry}
use Rattle.generator.proofs.Costs.{row_count, depends}

-- functions that agree on the numbers of a list
pub map_is_in : {A : Type 0} (f g : ℕ → A) (js : List ℕ) → ((j : ℕ) → is_in j js ≡ true → f j ≡ g j) → map f js ≡ map g js
unfolding is_in
map_is_in f g [] e = refl
map_is_in f g (j ∷ js) e = ap₂ ◌∷◌ (e j (rw (eq-eqb j j refl))) (map_is_in f g js (λ i m. e i (rw m (or-true (eqb i j)))))

module _ (h : Header) (s : Sound h) where
  -- any k nodes fix the message
  fixes : (ms us : List (Symbol (size h))) (js : List ℕ) → length ms ≡ h.k → length us ≡ h.k → length js ≡ h.k → all_below h.n js ≡ true → distinct js ≡ true → ((j : Fin h.n) → is_in j.0 js ≡ true → node_of h (numbers (size h) ms) j.0 ≡ node_of h (numbers (size h) us) j.0) → ms ≡ us
  unfolding are_nodes
  fixes ms us js lm lu size_is below different e =
      numbers_path (size h) (size_pos (modulus_of h) s.field) ms us
      (one_message h s js (numbers (size h) ms) (numbers (size h) us) (and_from _ _ (eq-eqb (length js) h.k size_is) (and_from _ _ below different)) (numbers_message h s ms lm) (numbers_message h s us lu)
      (map_is_in (node_of h (numbers (size h) ms)) (node_of h (numbers (size h) us)) js (λ j m. e (j, is_in_below h.n j js below m) m)))

  -- node j holds the sum of symbol r times entry (r, j)
  pub scheme_of : Scheme h.k h.n (Symbol (size h)) (λ j. ℕ)
  scheme_of = list_scheme h.k h.n (λ ms j. node_of h (numbers (size h) ms) j) ℕ_discrete fixes

  pub holds_is : (m : Message (Symbol (size h)) h.k) (j : Fin h.n) → scheme_of.holds m j ≡ node_of h (numbers (size h) (symbols h.k m)) j.0
  unfolding scheme_of list_scheme
  holds_is m j = refl

  -- the numbers of a message
  unfoldable pub numbers_of : Message (Symbol (size h)) h.k → List ℕ
  numbers_of m = numbers (size h) (symbols h.k m)

  pub is_the_message : (m : Message (Symbol (size h)) h.k) → is_message h (numbers_of m) ≡ true
  unfolding numbers_of
  is_the_message m = numbers_message h s (symbols h.k m) (length_symbols h.k m)

  module _ (r : Fin h.k) (m u : Message (Symbol (size h)) h.k) (c : Change r m u) where
    -- a change puts the new symbol at r
    changed : numbers_of u ≡ set (numbers_of m) r.0 (u r).0
    unfolding numbers_of
    changed = ap (numbers (size h)) (symbols_change h.k r m u c) ∙ map_set (λ (a : Symbol (size h)). a.0) (symbols h.k m) r.0 (u r)

    -- another symbol than the old one
    differs : (u r).0 ≡ get_or (numbers_of m) r.0 0 → ⊥
    unfolding numbers_of
    differs e =
        let pos = size_pos (modulus_of h) s.field in
        c.there (sym (symbol_path (size h) (e ∙ get_or_numbers (size h) pos (symbols h.k m) r.0 ∙ ap (λ (a : Symbol (size h)). a.0) (get_or_symbols h.k m r (symbol (size h) 0 pos)))))

    same_test : (j : Fin h.n) → eqb (node_of h (numbers_of m) j.0) (node_of h (numbers_of u) j.0) ≡ eqb (entry h r.0 j.0) 0
    same_test j =
        ap (λ (l : List ℕ). eqb (node_of h (numbers_of m) j.0) (node_of h l j.0)) changed
        ∙ altered_entry h s (numbers_of m) r.0 (u r).0 (is_the_message m) r.1 (symbol_below (size h) (u r)) differs j.0

    -- the change alters node j just where entry (r, j) is not zero
    means : (j : Fin h.n) → (not (eqb (entry h r.0 j.0) 0) ≡ true) ↔ Altered scheme_of m u j
    unfolding scheme_of list_scheme numbers_of
    means j = (
      λ t. eqb-false (node_of h (numbers_of m) j.0) (node_of h (numbers_of u) j.0) (same_test j ∙ not-true _ t),
      λ n. ap not (sym (same_test j) ∙ ne_eqb (node_of h (numbers_of m) j.0) (node_of h (numbers_of u) j.0) n),
    )

  -- the field has two symbols
  pub zero_symbol : Symbol (size h)
  zero_symbol = symbol (size h) 0 (size_pos (modulus_of h) s.field)

  pub one_symbol : Symbol (size h)
  one_symbol = symbol (size h) 1 (one_below (modulus_of h) s.field)

  pub two_symbols : zero_symbol ≢ one_symbol
  unfolding zero_symbol one_symbol
  two_symbols e = let z : ◌≡◌ {A = ℕ} 0 1 = ap (λ (a : Symbol (size h)). a.0) e in omega arith

  -- each change alters exactly d nodes, each node depends on exactly k·d / n symbols, rounded down or up
  pub scheme_tight : Tight scheme_of
  unfolding reads low_reads high_reads distance
  scheme_tight =
      tight scheme_of zero_symbol one_symbol two_symbols s.some s.fits (λ r j. not (eqb (entry h r j) 0)) means (λ r. row_count h s r.0) (λ j. depends h s j.0 j.1)

  -- no scheme of any kind of symbols and contents costs less
  pub scheme_least {ℓ κ} : {S : Type ℓ} {C : Fin h.n → Type κ} (t : Scheme h.k h.n S C) (x y : S) → x ≢ y → CostsAtLeast t scheme_of
  scheme_least t x y two = tight_least t scheme_of s.some s.fits x y two scheme_tight

  unfoldable pub our_scheme : OurScheme h
  our_scheme = record { scheme = scheme_of; holds_is = holds_is; tight = scheme_tight; least = λ t. scheme_least t 0 1 (λ e. omega arith) }
