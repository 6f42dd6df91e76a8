-- Lagrange's basis polynomials of distinct points: each is 1 at its own point and 0 at the others.
use mathlib.Core.Path.{◌≡◌, sym, ap, subst, ◌∙◌}
use mathlib.Core.List.{List, [], ◌∷◌}
use Prim.Native.Nat.{ℕ, suc, ◌-◌, ◌<◌}
use native.Mathlib.Omega.{arith}
use lib.ListN.{length, get_or, drop, length-map, length-drop}
use Rattle.lists.proofs.All.{All-at, All-of, Distinct, Distinct-at}
use Rattle.algebra.specs.Field.{Field}
use Rattle.algebra.proofs.Ring.{zero-add, mul-zero, sub-zero, no_divisors, inv_mul}
use Rattle.algebra.proofs.Poly.{eval, scale, eval_scale, newton, newton_quotient, quotient, eval_quotient, length_quotient, root_bound, all_zero_lem}
use Rattle.algebra.proofs.Product.{product, length_product, leading_newton, leading_product, product_vanishes}

module _ (F : Field) where
  infixl 70 ◌⊕◌
  infixl 80 ◌⊗◌
  infix 90 ⊖◌
  open F use {Carrier, 0f, 1f, add as ◌⊕◌, mul as ◌⊗◌, neg as ⊖◌, inv, decide}
  open F use {one_not_zero}

  -- the product Π (z − x_j) over the points x_j other than x: that over all points, divided by z − x
  unfoldable pub others : List Carrier → Carrier → List Carrier
  others xs x = quotient F x (drop 1 (product F xs))

  -- the basis polynomial of the point x: 1 at x and 0 at the other points
  unfoldable pub basis : List Carrier → Carrier → List Carrier
  basis xs x = scale F (inv (eval F (others xs x) x)) (others xs x)

  -- as many coefficients as points
  pub length_others : (xs : List Carrier) (x : Carrier) → length (others xs x) ≡ length xs
  unfolding others
  length_others xs x = length_quotient F x (drop 1 (product F xs)) ∙ omega (arith, length-drop 1 (product F xs), length_product F xs)

  -- the same for the basis polynomial
  pub length_basis : (xs : List Carrier) (x : Carrier) → length (basis xs x) ≡ length xs
  unfolding basis
  length_basis xs x = length-map (others xs x) (λ c. inv (eval F (others xs x) x) ⊗ c) ∙ length_others xs x

  -- division of a whole polynomial by x − a ..
  eval_divide : (a : Carrier) (cs : List Carrier) (x : Carrier) → eval F cs x ≡ eval F cs a ⊕ (x ⊕ ⊖ a) ⊗ eval F (quotient F a (drop 1 cs)) x
  unfolding eval quotient
  eval_divide a [] x = sym (zero-add F ((x ⊕ ⊖ a) ⊗ 0f) ∙ mul-zero F (x ⊕ ⊖ a))
  eval_divide a (c ∷ cs) x = eval_quotient F a c cs x

  -- .. which is exact at a root
  newton_divide : (a : Carrier) (cs : List Carrier) → 0 < length cs → eval F cs a ≡ 0f → newton F a 0f (quotient F a (drop 1 cs)) ≡ cs
  newton_divide a [] l h = absurd (omega arith)
  newton_divide a (c ∷ cs) l h = newton_quotient F a c cs h

  -- the points are roots of the product over all of them
  point_root : (xs : List Carrier) (i : ℕ) → i < length xs → eval F (product F xs) (get_or xs i 0f) ≡ 0f
  point_root xs i l = All-at (λ y. eval F (product F xs) y ≡ 0f) 0f xs (product_vanishes F xs) i l

  module _ (xs : List Carrier) (x : Carrier) (root : eval F (product F xs) x ≡ 0f) where
    -- the product over the others vanishes at them
    others_zero : (y : Carrier) → eval F (product F xs) y ≡ 0f → (x ≡ y → ⊥) → eval F (others xs x) y ≡ 0f
    unfolding others
    others_zero y h n =
        no_divisors F (y ⊕ ⊖ x) (eval F (others xs x) y) (λ z. n (sym (sub-zero F y x z)))
        (sym (zero-add F ((y ⊕ ⊖ x) ⊗ eval F (others xs x) y)) ∙ ap (λ z. z ⊕ (y ⊕ ⊖ x) ⊗ eval F (others xs x) y) (sym root) ∙ sym (eval_divide x (product F xs) y) ∙ h)

    -- its leading coefficient is 1
    others_leading : (n : ℕ) → length xs ≡ suc n → get_or (others xs x) n 0f ≡ 1f
    unfolding others
    others_leading n l =
        sym (leading_newton F x 0f n (others xs x) (length_others xs x ∙ l))
        ∙ ap (λ p. get_or p (suc n) 0f) (newton_divide x (product F xs) (omega (arith, length_product F xs)) root)
        ∙ ap (λ i. get_or (product F xs) i 0f) (sym l)
        ∙ leading_product F xs

    -- where it vanishes at x it vanishes at every point
    others_everywhere : eval F (others xs x) x ≡ 0f → (y : Carrier) → eval F (product F xs) y ≡ 0f → Dec (x ≡ y) → eval F (others xs x) y ≡ 0f
    others_everywhere z y h (yes e) = subst (λ y. eval F (others xs x) y ≡ 0f) e z
    others_everywhere z y h (no n) = others_zero y h n

    -- so it does not vanish at x where the points are distinct
    others_nonzero : Distinct xs → 0 < length xs → eval F (others xs x) x ≡ 0f → ⊥
    others_nonzero u l z =
        let n : ℕ = length xs - 1 in
        let same = length_others xs x in
        one_not_zero
        (sym (others_leading n (omega arith))
        ∙ All-at (λ c. c ≡ 0f) 0f (others xs x)
        (all_zero_lem F (others xs x) (length (others xs x))
        (root_bound F xs (others xs x) u (omega arith)
        (All-of (λ y. eval F (others xs x) y ≡ 0f) 0f xs
        (λ j b. others_everywhere z (get_or xs j 0f) (point_root xs j b) (decide x (get_or xs j 0f))))))
        n (omega arith))

  module _ (xs : List Carrier) (u : Distinct xs) where
    -- a basis polynomial is 1 at its own point ..
    pub basis_own : (i : ℕ) → i < length xs → eval F (basis xs (get_or xs i 0f)) (get_or xs i 0f) ≡ 1f
    unfolding basis
    basis_own i l =
        let x = get_or xs i 0f in
        eval_scale F (inv (eval F (others xs x) x)) (others xs x) x ∙ inv_mul F (eval F (others xs x) x) (others_nonzero xs x (point_root xs i l) u (omega arith))

    -- .. and 0 at the others
    pub basis_other : (i j : ℕ) → i < length xs → j < length xs → (i ≡ j → ⊥) → eval F (basis xs (get_or xs i 0f)) (get_or xs j 0f) ≡ 0f
    unfolding basis
    basis_other i j l b n =
        let x = get_or xs i 0f in
        let k = inv (eval F (others xs x) x) in
        eval_scale F k (others xs x) (get_or xs j 0f)
        ∙ ap (λ y. k ⊗ y) (others_zero xs x (point_root xs i l) (get_or xs j 0f) (point_root xs j b) (λ e. n (Distinct-at 0f xs u i j l b e)))
        ∙ mul-zero F k
