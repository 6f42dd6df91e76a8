-- Points, products, Lagrange's basis polynomials and weighted sums on numbers are those of the algebra over the field that p names.
use mathlib.Core.Path.{◌≡◌, refl, sym, ap, ap₂, ◌∙◌}
use mathlib.Core.Bool.{true}
use mathlib.Core.List.{List, [], ◌∷◌, map}
use Prim.Native.Nat.{ℕ, zero, suc, ◌+◌, ◌≤◌, ◌<◌}
use native.Mathlib.Numerals.{add-one}
use native.Mathlib.Omega.{arith}
use lib.ListN.{length, get_or, take, drop}
use Rattle.lists.proofs.All.{map_take, map_drop}
use Rattle.algebra.specs.Powers.{pow}
use Rattle.algebra.proofs.Sums.{sum}
use Rattle.algebra.proofs.Poly.{eval, eval_scale, newton, quotient}
use Rattle.algebra.proofs.Product.{product, eval_product, eval_product_nil}
use Rattle.algebra.proofs.LagrangeBasis.{others, basis}
use Rattle.algebra.proofs.BasePolynomial.{base}
use Rattle.algebra.proofs.Others.{eval_others}
use Rattle.field.specs.Fields.{is_field, size_of, add, mul, inverse}
use Rattle.field.specs.Symbols.{Symbol, numbers}
use Rattle.field.proofs.Symbols.{get_or_numbers}
use Rattle.field.proofs.FieldOf.{field_of, size_pos, number_sub, number_pow}
use Rattle.field.specs.Inner.Sums.{dot}
use Rattle.interpolation.specs.Inner.Points.{points_of}
use Rattle.interpolation.specs.Inner.Polynomials.{times_linear, product_of, base_of, quotient_of}
use Rattle.interpolation.specs.Inner.Lagrange.{product_at, others_at, scale_at, basis_at}

module _ (p : ℕ) (v : is_field p ≡ true) where
  abbrev number : Symbol (size_of p) → ℕ
  number x = x.0

  -- the number at an index
  abbrev point : List (Symbol (size_of p)) → ℕ → Symbol (size_of p)
  point xs i = get_or xs i (field_of p v).0f

  -- the points are powers
  pub points_of_is : (a : Symbol (size_of p)) (e : ℕ) (js : List ℕ) → points_of p a.0 e js ≡ numbers (size_of p) (map (λ j. pow (field_of p v) a (j + e)) js)
  unfolding points_of
  points_of_is a e [] = refl
  points_of_is a e (j ∷ js) = ap₂ ◌∷◌ (sym (number_pow p v a (j + e))) (points_of_is a e js)

  -- products of differences are values of the product polynomial
  pub product_at_is : (xs : List (Symbol (size_of p))) (z : Symbol (size_of p)) → product_at p (numbers (size_of p) xs) z.0 ≡ (eval (field_of p v) (product (field_of p v) xs) z).0
  unfolding product_at
  product_at_is [] z = sym (ap number (eval_product_nil (field_of p v) z))
  product_at_is (x ∷ xs) z = ap₂ (mul p) (sym (number_sub p v z x)) (product_at_is xs z) ∙ sym (ap number (eval_product (field_of p v) x xs z))

  -- the same for the points but one
  pub others_at_is : (xs : List (Symbol (size_of p))) (i : ℕ) (z : Symbol (size_of p)) → i < length xs → others_at p (numbers (size_of p) xs) i z.0 ≡ (eval (field_of p v) (others (field_of p v) xs (point xs i)) z).0
  unfolding others_at
  others_at_is xs i z l =
      ap₂ (mul p)
      (ap (λ (l : List ℕ). product_at p l z.0) (sym (map_take number i xs)) ∙ product_at_is (take i xs) z)
      (ap (λ (k : ℕ). product_at p (drop k (numbers (size_of p) xs)) z.0) (add-one i) ∙ ap (λ (l : List ℕ). product_at p l z.0) (sym (map_drop number (suc i) xs)) ∙ product_at_is (drop (suc i) xs) z)
      ∙ sym (ap number (eval_others (field_of p v) xs i z l))

  -- the scale of a basis polynomial
  pub scale_at_is : (xs : List (Symbol (size_of p))) (i : ℕ) → i < length xs → scale_at p (numbers (size_of p) xs) i ≡ ((field_of p v).inv (eval (field_of p v) (others (field_of p v) xs (point xs i)) (point xs i))).0
  unfolding scale_at
  scale_at_is xs i l =
      ap (inverse p) (ap (others_at p (numbers (size_of p) xs) i) (get_or_numbers (size_of p) (size_pos p v) xs i) ∙ others_at_is xs i (point xs i) l)

  -- its value
  pub basis_at_is : (xs : List (Symbol (size_of p))) (i : ℕ) (z : Symbol (size_of p)) → i < length xs → basis_at p (numbers (size_of p) xs) i z.0 ≡ (eval (field_of p v) (basis (field_of p v) xs (point xs i)) z).0
  unfolding basis_at basis
  basis_at_is xs i z l =
      let F = field_of p v in
      let x = point xs i in
      ap₂ (mul p) (scale_at_is xs i l) (others_at_is xs i z l) ∙ sym (ap number (eval_scale F (F.inv (eval F (others F xs x) x)) (others F xs x) z))

  -- polynomials by their coefficients: multiplication by x − a ..
  times_linear_is : (a c : Symbol (size_of p)) (qs : List (Symbol (size_of p))) → times_linear p a.0 c.0 (numbers (size_of p) qs) ≡ numbers (size_of p) (newton (field_of p v) a c qs)
  unfolding times_linear newton
  times_linear_is a c [] = refl
  times_linear_is a c (q ∷ qs) = ap₂ ◌∷◌ (sym (number_sub p v c ((field_of p v).mul a q))) (times_linear_is a q qs)

  -- .. the product ..
  pub product_of_is : (xs : List (Symbol (size_of p))) → product_of p (numbers (size_of p) xs) ≡ numbers (size_of p) (product (field_of p v) xs)
  unfolding product_of product
  product_of_is [] = refl
  product_of_is (a ∷ xs) = ap (times_linear p a.0 0) (product_of_is xs) ∙ times_linear_is a (field_of p v).0f (product (field_of p v) xs)

  -- .. the base polynomial ..
  pub base_of_is : (a : Symbol (size_of p)) (m : ℕ) → base_of p a.0 m ≡ numbers (size_of p) (base (field_of p v) a m)
  unfolding base_of base product
  base_of_is a zero = refl
  base_of_is a (suc m) =
      ap₂ (λ (x : ℕ) (l : List ℕ). times_linear p x 0 l) (sym (number_pow p v a m)) (base_of_is a m)
      ∙ times_linear_is (pow (field_of p v) a m) (field_of p v).0f (base (field_of p v) a m)

  -- .. and division: the first coefficient of the quotient is the value of the rest
  first_is : (a : Symbol (size_of p)) (cs : List (Symbol (size_of p))) → point (quotient (field_of p v) a cs) 0 ≡ eval (field_of p v) cs a
  unfolding quotient eval
  first_is a [] = refl
  first_is a (c ∷ cs) = refl

  quotient_of_is : (a : Symbol (size_of p)) (cs : List (Symbol (size_of p))) → quotient_of p a.0 (numbers (size_of p) cs) ≡ numbers (size_of p) (quotient (field_of p v) a cs)
  unfolding quotient_of quotient eval
  quotient_of_is a [] = refl
  quotient_of_is a (c ∷ cs) =
      let F = field_of p v in
      let first : get_or (quotient_of p a.0 (numbers (size_of p) cs)) 0 0 ≡ (eval F cs a).0 = ap (λ (l : List ℕ). get_or l 0 0) (quotient_of_is a cs) ∙ get_or_numbers (size_of p) (size_pos p v) (quotient F a cs) 0 ∙ ap number (first_is a cs) in
      ap₂ ◌∷◌ (ap (λ (x : ℕ). add p (mul p a.0 x) c.0) first ∙ ap number (F.add_comm (F.mul a (eval F cs a)) c)) (quotient_of_is a cs)

  -- the product over the other points
  pub others_is : (xs : List (Symbol (size_of p))) (x : Symbol (size_of p)) → quotient_of p x.0 (drop 1 (product_of p (numbers (size_of p) xs))) ≡ numbers (size_of p) (others (field_of p v) xs x)
  unfolding others
  others_is xs x =
      ap (λ (l : List ℕ). quotient_of p x.0 (drop 1 l)) (product_of_is xs)
      ∙ ap (quotient_of p x.0) (sym (map_drop number 1 (product (field_of p v) xs)))
      ∙ quotient_of_is x (drop 1 (product (field_of p v) xs))

  -- a sum of products of numbers of symbols
  pub dot_is : (ys ws : List ℕ) (y w : ℕ → Symbol (size_of p)) → length ys ≤ length ws → ((i : ℕ) → i < length ys → get_or ys i 0 ≡ (y i).0) → ((i : ℕ) → i < length ys → get_or ws i 0 ≡ (w i).0) → dot p ys ws ≡ (sum (field_of p v) (length ys) (λ i. (field_of p v).mul (y i) (w i))).0
  unfolding dot sum
  dot_is [] ws y w l g h = refl
  dot_is (u ∷ ys) [] y w l g h = absurd (omega arith)
  dot_is (u ∷ ys) (x ∷ ws) y w l g h =
      ap₂ (add p) (ap₂ (mul p) (g 0 (omega arith)) (h 0 (omega arith)))
      (dot_is ys ws (λ i. y (suc i)) (λ i. w (suc i)) (omega arith) (λ i b. g (suc i) (omega arith)) (λ i b. h (suc i) (omega arith)))
