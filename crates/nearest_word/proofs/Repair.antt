-- The symbols of the only word that may be near enough, node by node: what the lane has where the locator does not vanish, and at places
-- that hold all wrong ones what is left after an error that the syndromes and the product over the other places give.
use mathlib.Core.Path.{◌≡◌, sym, ap, ap₂, ◌∙◌}
use mathlib.Core.List.{List, map}
use Prim.Native.Nat.{ℕ, ◌+◌, ◌≤◌, ◌<◌}
use native.Mathlib.Omega.{arith}
use lib.ListN.{length, get_or, length-map}
use Rattle.lists.proofs.All.{All-at, Distinct}
use Rattle.std.proofs.lemmas.List.{get_or-map}
use Rattle.lists.proofs.Places.{Places}
use Rattle.algebra.specs.Field.{Field}
use Rattle.algebra.specs.Powers.{pow, Order}
use Rattle.algebra.proofs.Ring.{mul-zero, zero-mul, no_divisors}
use Rattle.algebra.proofs.Poly.{eval, eval_scale}
use Rattle.algebra.proofs.Powers.{Distinct-pow}
use Rattle.algebra.proofs.LagrangeBasis.{others, basis, length_others, basis_own, basis_other}
use Rattle.nearest_word.proofs.Selection.{stable}
use Rattle.nearest_word.proofs.Recurrence.{discrepancy}
use Rattle.nearest_word.proofs.Massey.{Locator}
use Rattle.nearest_word.proofs.Errors.{value, syndrome, wrong, free_agrees}
use Rattle.nearest_word.proofs.Correction.{range_at, error_removed}

module _ (F : Field) where
  infixl 70 ◌⊕◌
  infixl 80 ◌⊗◌
  infix 90 ⊖◌
  open F use {Carrier, 0f, add as ◌⊕◌, mul as ◌⊗◌, neg as ⊖◌, inv, decide}
  open F use {one_not_zero}

  -- the product over the other points is not zero at its own point, and zero at the others
  others_own : (bs : List Carrier) → Distinct bs → (i : ℕ) → i < length bs → eval F (others F bs (get_or bs i 0f)) (get_or bs i 0f) ≡ 0f → ⊥
  unfolding basis
  others_own bs u i l z =
      let x = get_or bs i 0f in
      let k = inv (eval F (others F bs x) x) in
      one_not_zero (sym (basis_own F bs u i l) ∙ eval_scale F k (others F bs x) x ∙ ap (λ y. k ⊗ y) z ∙ mul-zero F k)

  others_apart : (bs : List Carrier) → Distinct bs → (i j : ℕ) → i < length bs → j < length bs → (i ≡ j → ⊥) → eval F (others F bs (get_or bs i 0f)) (get_or bs j 0f) ≡ 0f
  unfolding basis
  others_apart bs u i j l b n =
      let x = get_or bs i 0f in
      let k = inv (eval F (others F bs x) x) in
      no_divisors F k (eval F (others F bs x) (get_or bs j 0f))
      (λ z. one_not_zero (sym (basis_own F bs u i l) ∙ eval_scale F k (others F bs x) x ∙ ap (λ y. y ⊗ eval F (others F bs x) x) z ∙ zero-mul F (eval F (others F bs x) x)))
      (sym (eval_scale F k (others F bs x) (get_or bs j 0f)) ∙ basis_other F bs u i j l b n)

  module _ (a : Carrier) (n : ℕ) (o : Order F a n) (f : List Carrier) (y : ℕ → Carrier) where
    -- where a locator does not vanish, the lane is right
    pub right : (k t : ℕ) → length f ≡ k → k + (t + t) ≤ n → length (wrong F a n o f y) ≤ t → (v : List Carrier) → Locator F (syndrome F a n y) t v → (j : ℕ) → j < n → (value F a v j ≡ 0f → ⊥) → y j ≡ value F a f j
    right k t size bound few v locator j b z =
        range_at (λ j. (value F a v j ≡ 0f → ⊥) → y j ≡ value F a f j) 0 n (free_agrees F a n o f y k t size bound few v locator) j (omega arith) (omega arith) z

    -- places that hold all wrong ones: at each of them an error is taken away
    module _ (js : List ℕ) (places : Places n (length js) js) (room : length js + length f ≤ n) (others_right : (j : ℕ) → j < n → ((i : ℕ) → i < length js → get_or js i 0 ≡ j → ⊥) → y j ≡ value F a f j) where
      abbrev bs : List Carrier
      bs = map (pow F a) js

      distinct : Distinct bs
      distinct = Distinct-pow F a n o (length js) js places

      -- a wrong place stands at some index, and the product over the places but one vanishes there
      vanish : (i : ℕ) → i < length js → (l : ℕ) → l < n → (l ≡ get_or js i 0 → ⊥) → (y l ≡ value F a f l → ⊥) → value F a (others F bs (pow F a (get_or js i 0))) l ≡ 0f
      vanish i b l c d q =
          stable (value F a (others F bs (pow F a (get_or js i 0))) l ≡ 0f) (decide (value F a (others F bs (pow F a (get_or js i 0))) l) 0f)
          (λ no_zero.
          q
          (others_right l c
          (λ x g is.
          no_zero
          (ap₂ (λ p s. eval F (others F bs p) s) (sym (get_or-map (pow F a) js i 0 0f b)) (ap (pow F a) (sym is) ∙ sym (get_or-map (pow F a) js x 0 0f g))
          ∙ others_apart bs distinct i x (omega (arith, length-map js (pow F a))) (omega (arith, length-map js (pow F a))) (λ s. d (sym is ∙ ap (λ u. get_or js u 0) (sym s)))))))

      pub repaired : (i : ℕ) → i < length js → let j = get_or js i 0 in let N = others F bs (pow F a j) in value F a f j ≡ y j ⊕ ⊖ (discrepancy F N (syndrome F a n y) 0 ⊗ inv (value F a N j) ⊗ inv (pow F a j))
      repaired i b =
          let j = get_or js i 0 in
          let in_bs : i < length bs = omega (arith, length-map js (pow F a)) in
          let point : get_or bs i 0f ≡ pow F a j = get_or-map (pow F a) js i 0 0f b in
          error_removed F a n o f y j (All-at (λ j. j < n) 0 js places.low i b) (others F bs (pow F a j)) (omega (arith, length_others F bs (pow F a j), length-map js (pow F a))) (vanish i b)
          (λ z. others_own bs distinct i in_bs (ap (λ p. eval F (others F bs p) p) point ∙ z))
