-- The lane less the errors that the program finds is what every word near to the lane must be.
use mathlib.Core.Path.{◌≡◌, sym, ap, ◌∙◌}
use mathlib.Core.Bool.{Bool, true, false, true≢false}
use mathlib.Core.List.{List}
use Prim.Native.Nat.{ℕ, ◌+◌, ◌-◌, ◌≤◌, ◌<◌}
use native.Mathlib.Omega.{arith}
use borrow.Author.Tests.{eq-eqb}
use lib.Dec.{eqb}
use lib.ListN.{length, get_or, take}
use Rattle.lists.specs.Counting.{passing_from}
use Rattle.lists.specs.Numbers.{all_below, is_in}
use Rattle.lists.specs.Padded.{padded}
use Rattle.lists.proofs.Count.{count_ext}
use Rattle.lists.proofs.Passing.{length_passing, passing_place}
use Rattle.lists.proofs.Numbers.{place_is_in}
use Rattle.algebra.specs.Field.{Field}
use Rattle.field.specs.Fields.{power}
use Rattle.field.specs.Symbols.{Symbol}
use Rattle.generator.specs.declared.Header.{Header}
use Rattle.generator.specs.Records.{modulus_of, size, Sound}
use Rattle.generator.specs.Codewords.{poly_at}
use Rattle.generator.proofs.Sound.{field_for, root_for, root_order}
use Rattle.check_sums.specs.Inner.Sums.{check_sums}
use Rattle.nearest_word.specs.Nearest.{radius}
use Rattle.nearest_word.proofs.Massey.{Locator}
use Rattle.nearest_word.proofs.Errors.{value, syndrome}
use Rattle.nearest_word.proofs.Repair.{right}
use Rattle.nearest_word.proofs.Near.{Polynomial, term, Near, radius_fits, count_roots, numbers_values, near_polynomial, near_faults}
use Rattle.decode.specs.Inner.Locating.{Below, Locates}
use Rattle.decode.specs.Inner.Errors.{roots_of, removed}
use Rattle.decode.proofs.Locators.{coefficients as L, front_below, located}
use Rattle.decode.proofs.RootNodes.{roots_low, roots_distinct}
use Rattle.decode.proofs.Repaired.{poly_power, same_syndromes, at_ws, es, repaired_word}

module _ (h : Header) (s : Sound h) where
  abbrev F : Field
  F = field_for h s

  abbrev a : Symbol (size h)
  a = root_for h s

  abbrev p : ℕ
  p = modulus_of h

  module _ (ws : List ℕ) (long : length ws ≡ h.n) (below : all_below (size h) ws ≡ true) (sums locator : List ℕ) (few_nodes : h.n ≤ 255) (sums_are : sums ≡ padded 255 (check_sums h ws)) (sums_long : length sums ≡ 255) (sums_below : Below (size h) sums) (loc : Locates p (radius h) sums locator) where
    abbrev t : ℕ
    t = radius h

    abbrev y : ℕ → Symbol (size h)
    y = term h s ws

    fits : t + t ≤ h.n - h.k
    fits = omega (arith, radius_fits h s)

    few : t < 255
    few = omega (arith, fits)

    abbrev coefficients : List (Symbol (size h))
    coefficients = L h s t few sums locator sums_below loc

    is_locator : Locator F (syndrome F a h.n y) t coefficients
    is_locator = located h s t few sums locator sums_below loc (syndrome F a h.n y) (λ e b. same_syndromes h s ws long below sums few_nodes sums_are sums_long sums_below e (omega (arith, fits)))

    abbrev front : List ℕ
    front = take (t + 1) locator

    low_front : all_below (size h) front ≡ true
    low_front = front_below h s t few sums locator sums_below loc

    -- the nodes at which it vanishes
    abbrev pub js : List ℕ
    js = roots_of p h.root h.n front

    pub js_room : length js + h.k ≤ h.n
    unfolding roots_of
    js_room =
        let test : ℕ → Bool = λ j. eqb (poly_at p front (power p h.root j)) 0 in
        omega (
          arith,
          length_passing h.n 0 test,
          count_ext h.n 0 test (λ j. eqb (value F a coefficients j).0 0) (λ j l b. ap (λ (x : ℕ). eqb x 0) (poly_power h s front low_front j)),
          count_roots h s t coefficients is_locator.short is_locator.nonzero,
          fits,
          s.fits,
        )

    -- a node at which it is 0 is listed
    listed : (j : ℕ) → j < h.n → value F a coefficients j ≡ F.0f → is_in j js ≡ true
    unfolding roots_of
    listed j b z =
        let test : ℕ → Bool = λ j. eqb (poly_at p front (power p h.root j)) 0 in
        let (u, c, is) = passing_place h.n 0 test j (omega arith) (omega arith) (eq-eqb _ 0 (poly_power h s front low_front j ∙ ap (λ (x : Symbol (size h)). x.0) z)) in
        sym (ap (λ (x : ℕ). is_in x (passing_from h.n 0 test)) is) ∙ place_is_in (passing_from h.n 0 test) u c

    module _ (us : List ℕ) (near : Near h s ws us) where
      abbrev poly : Polynomial h s us
      poly = near_polynomial h s ws long below us near

      -- every other node is right
      js_right : (j : ℕ) → j < h.n → is_in j js ≡ false → get_or ws j 0 ≡ get_or us j 0
      js_right j b out =
          sym (at_ws h s ws long below sums few_nodes sums_are sums_long sums_below j b)
          ∙ ap (λ (x : Symbol (size h)). x.0)
          (right F a h.n (root_order h s) poly.f y h.k t poly.size_is (radius_fits h s) (near_faults h s ws long below us near poly) coefficients is_locator j b (λ z. true≢false (sym (listed j b z) ∙ out)))
          ∙ sym (ap (λ (l : List ℕ). get_or l j 0) poly.word ∙ numbers_values h s poly.f j b)

      -- so the word is the lane less the errors at these nodes
      pub found_word : us ≡ removed p js (es h s ws long below sums few_nodes sums_are sums_long sums_below js (roots_low p h.root h.n front) (roots_distinct p h.root h.n front) js_room) ws
      found_word =
          repaired_word h s ws long below sums few_nodes sums_are sums_long sums_below js (roots_low p h.root h.n front) (roots_distinct p h.root h.n front) js_room us near.long poly js_right
