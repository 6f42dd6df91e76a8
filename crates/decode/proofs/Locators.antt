-- A locator on numbers: the first t + 1 coefficients of the array, as symbols, are a locator of every sequence that begins with the sums.
use mathlib.Core.Path.{◌≡◌, sym, ap, ◌∙◌}
use mathlib.Core.Bool.{true}
use mathlib.Core.List.{List}
use Prim.Native.Nat.{ℕ, suc, ◌+◌, ◌<◌}
use native.Mathlib.Nat as Nat
use native.Mathlib.Decide.{dec_lt}
use native.Mathlib.Omega.{arith}
use lib.ListN.{length, get_or, take, get_or-eq_default}
use lib.Seq.{length-take-le, get_or-take}
use Rattle.lists.specs.Numbers.{all_below}
use Rattle.std.proofs.lemmas.List.{get_or-map}
use Rattle.lists.proofs.Numbers.{at_below}
use Rattle.algebra.specs.Field.{Field}
use Rattle.field.specs.Symbols.{Symbol}
use Rattle.field.proofs.Symbols.{symbol_path, residue}
use Rattle.field.proofs.FieldOf.{size_pos}
use Rattle.generator.specs.declared.Header.{Header}
use Rattle.generator.specs.Records.{modulus_of, size, Sound}
use Rattle.generator.proofs.Sound.{field_for}
use Rattle.generator.proofs.Recovery.{lifted, length_lifted}
use Rattle.nearest_word.proofs.Recurrence.{get_or_zeros}
use Rattle.nearest_word.proofs.Massey.{Locator}
use Rattle.nearest_word.proofs.Errors.{discrepancy_agree}
use Rattle.nearest_word.proofs.Near.{term}
use Rattle.decode.specs.Inner.Locating.{Below, Locates}
use Rattle.decode.proofs.Bridge.{number, Holds, partial_discrepancy}

module _ (h : Header) (s : Sound h) (t : ℕ) (few : t < 255) (sums locator : List ℕ) (sums_below : Below (size h) sums) (loc : Locates (modulus_of h) t sums locator) where
  abbrev F : Field
  F = field_for h s

  abbrev p : ℕ
  p = modulus_of h

  -- the coefficients of the locator
  abbrev pub front : List ℕ
  front = take (t + 1) locator

  front_long : length front ≡ t + 1
  front_long = length-take-le (t + 1) locator (omega (arith, loc.long))

  pub front_below : all_below (size h) front ≡ true
  front_below = at_below (size h) front (λ i b. rw (get_or-take (t + 1) locator i 0 (omega (arith, front_long))) (loc.below i))

  abbrev pub coefficients : List (Symbol (size h))
  coefficients = lifted h s front

  holds : Holds p s.field locator coefficients
  holds x = go (dec_lt x (t + 1))
    where
      go : Dec (x < t + 1) → get_or locator x 0 ≡ number p s.field coefficients x
      go (yes b) =
          sym (Nat.mod-eq_of_lt (loc.below x))
          ∙ ap (λ (z : ℕ). (residue (size h) (size_pos p s.field) z).0) (sym (get_or-take (t + 1) locator x 0 b))
          ∙ ap (λ (z : Symbol (size h)). z.0) (sym (get_or-map (residue (size h) (size_pos p s.field)) front x 0 F.0f (omega (arith, front_long))))
      go (no b) = loc.short x (omega arith) ∙ ap (λ (z : Symbol (size h)). z.0) (sym (get_or-eq_default coefficients F.0f {n = x} (omega (arith, length_lifted h s front, front_long))))

  pub located : (r : ℕ → Symbol (size h)) → ((e : ℕ) → e < t + t → term h s sums e ≡ r e) → Locator F r t coefficients
  located r same =
      let k : length coefficients ≡ t + 1 = length_lifted h s front ∙ front_long in
      record {
        short = omega arith;
        nonzero = λ z. loc.nonzero (λ x. holds x ∙ ap (λ (c : Symbol (size h)). c.0) (get_or_zeros F coefficients x z));
        recurs = λ e b.
            sym (discrepancy_agree F coefficients (term h s sums) r e (t + t) (omega arith) same)
            ∙ symbol_path (size h) (sym (partial_discrepancy p s.field locator sums coefficients holds sums_below e (suc t) (omega arith)) ∙ loc.recurs e b);
      }
