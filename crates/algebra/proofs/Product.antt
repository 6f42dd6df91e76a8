-- The product Π (x − a_i): its length, its leading coefficient and its roots.
use mathlib.Core.Path.{◌≡◌, refl, sym, ap, ◌∙◌}
use mathlib.Core.List.{List, [], ◌∷◌}
use Prim.Native.Nat.{ℕ, zero, suc}
use native.Mathlib.Omega.{arith}
use lib.ListN.{length, get_or}
use Rattle.lists.proofs.All.{All, All-imp}
use Rattle.algebra.specs.Field.{Field}
use Rattle.algebra.proofs.Ring.{zero-add, mul-zero, zero-mul, sub-zero, no_divisors}
use Rattle.algebra.proofs.Poly.{eval, newton, eval_newton, length_newton}

module _ (F : Field) where
  infixl 70 ◌⊕◌
  infixl 80 ◌⊗◌
  infix 90 ⊖◌
  open F use {Carrier, 0f, 1f, add as ◌⊕◌, mul as ◌⊗◌, neg as ⊖◌}
  open F use {add-zero, add_neg, one_not_zero}

  -- the coefficients of Π (x − a) over a list of points
  unfoldable pub product : List Carrier → List Carrier
  product [] = 1f ∷ []
  product (a ∷ xs) = newton F a 0f (product xs)

  -- one coefficient more than points
  pub length_product : (xs : List Carrier) → length (product xs) ≡ suc (length xs)
  unfolding product
  length_product [] = refl
  length_product (a ∷ xs) = length_newton F a 0f (product xs) ∙ ap suc (length_product xs)

  -- the value of the product, factor by factor
  pub eval_product : (a : Carrier) (xs : List Carrier) (x : Carrier) → eval F (product (a ∷ xs)) x ≡ (x ⊕ ⊖ a) ⊗ eval F (product xs) x
  unfolding product
  eval_product a xs x = eval_newton F a 0f (product xs) x ∙ zero-add F ((x ⊕ ⊖ a) ⊗ eval F (product xs) x)

  -- the empty product is 1
  pub eval_product_nil : (x : Carrier) → eval F (product []) x ≡ 1f
  unfolding product eval
  eval_product_nil x = ap (λ y. 1f ⊕ y) (mul-zero F x) ∙ add-zero 1f

  -- the last coefficient of p + (x − a)·q(x) is that of q
  pub leading_newton : (a p : Carrier) (n : ℕ) (qs : List Carrier) → length qs ≡ suc n → get_or (newton F a p qs) (suc n) 0f ≡ get_or qs n 0f
  unfolding newton
  leading_newton a p n [] l = absurd (omega arith)
  leading_newton a p zero (q ∷ []) l = refl
  leading_newton a p zero (q ∷ r ∷ qs) l = absurd (omega arith)
  leading_newton a p (suc n) (q ∷ qs) l = leading_newton a q n qs (omega arith)

  -- the leading coefficient is 1
  pub leading_product : (xs : List Carrier) → get_or (product xs) (length xs) 0f ≡ 1f
  unfolding product
  leading_product [] = refl
  leading_product (a ∷ xs) = leading_newton a 0f (length xs) (product xs) (length_product xs) ∙ leading_product xs

  vanish_here : (a : Carrier) (xs : List Carrier) → eval F (product (a ∷ xs)) a ≡ 0f
  vanish_here a xs = eval_product a xs a ∙ ap (λ y. y ⊗ eval F (product xs) a) (add_neg a) ∙ zero-mul F (eval F (product xs) a)

  vanish_there : (a : Carrier) (xs : List Carrier) (x : Carrier) → eval F (product xs) x ≡ 0f → eval F (product (a ∷ xs)) x ≡ 0f
  vanish_there a xs x h = eval_product a xs x ∙ ap (λ y. (x ⊕ ⊖ a) ⊗ y) h ∙ mul-zero F (x ⊕ ⊖ a)

  -- the product vanishes at each of its points ..
  pub product_vanishes : (xs : List Carrier) → All (λ x. eval F (product xs) x ≡ 0f) xs
  product_vanishes [] = tt
  product_vanishes (a ∷ xs) =
      (vanish_here a xs, All-imp (λ x. eval F (product xs) x ≡ 0f) (λ x. eval F (product (a ∷ xs)) x ≡ 0f) (vanish_there a xs) xs (product_vanishes xs))

  -- .. and only there
  pub product_nonzero : (xs : List Carrier) (x : Carrier) → All (λ a. x ≡ a → ⊥) xs → eval F (product xs) x ≡ 0f → ⊥
  product_nonzero [] x n h = one_not_zero (sym (eval_product_nil x) ∙ h)
  product_nonzero (a ∷ xs) x n h =
      product_nonzero xs x n.1 (no_divisors F (x ⊕ ⊖ a) (eval F (product xs) x) (λ z. n.0 (sub-zero F x a z)) (sym (eval_product a xs x) ∙ h))
