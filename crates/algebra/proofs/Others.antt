-- The product over all points but one, factor by factor: Lagrange's basis polynomials without their scale.
use mathlib.Core.Path.{◌≡◌, refl, sym, ap, ap₂, ◌∙◌}
use mathlib.Core.List.{List, [], ◌∷◌, ◌++◌}
use Prim.Native.Nat.{ℕ, suc, ◌<◌}
use native.Mathlib.Omega.{arith}
use lib.ListN.{length, get_or, take, drop}
use lib.Seq.{split_at}
use Rattle.std.proofs.lemmas.List.{get_or-map}
use Rattle.algebra.specs.Field.{Field}
use Rattle.algebra.proofs.Ring.{mul-zero, zero-mul, mul_left_comm, one-mul, neg_mul, mul_neg, neg_neg}
use Rattle.algebra.proofs.Sums.{sum, sum_agree, sum_scale}
use Rattle.algebra.proofs.Poly.{eval, newton, eval_newton, quotient}
use Rattle.algebra.proofs.Product.{product, eval_product, eval_product_nil}
use Rattle.algebra.proofs.LagrangeBasis.{others, basis, length_others}

module _ (F : Field) where
  infixl 70 ◌⊕◌
  infixl 80 ◌⊗◌
  infix 90 ⊖◌
  open F use {Carrier, 0f, 1f, add as ◌⊕◌, mul as ◌⊗◌, neg as ⊖◌, inv}
  open F use {add_assoc, add_comm, add-zero, add_neg, mul_assoc, mul_comm, mul-add}

  -- the value of p + (x − a)·q(x) at a is p
  newton_at : (a p : Carrier) (qs : List Carrier) → eval F (newton F a p qs) a ≡ p
  newton_at a p qs = eval_newton F a p qs a ∙ ap (λ y. p ⊕ y ⊗ eval F qs a) (add_neg a) ∙ ap (λ y. p ⊕ y) (zero-mul F (eval F qs a)) ∙ add-zero p

  -- division takes the factor x − a out again
  quotient_newton : (a p : Carrier) (qs : List Carrier) → quotient F a (newton F a p qs) ≡ p ∷ qs
  unfolding quotient newton
  quotient_newton a p [] = ap (λ y. y ∷ []) (newton_at a p [])
  quotient_newton a p (q ∷ qs) = ap₂ ◌∷◌ (newton_at a p (q ∷ qs)) (quotient_newton a q qs)

  pub quotient_after : (a p : Carrier) (qs : List Carrier) → quotient F a (drop 1 (newton F a p qs)) ≡ qs
  unfolding quotient newton
  quotient_after a p [] = refl
  quotient_after a p (q ∷ qs) = quotient_newton a q qs

  -- −a·(q − b·c) = −a·q + a·b·c
  neg_product : (a b c q : Carrier) → ⊖ (a ⊗ (q ⊕ ⊖ (b ⊗ c))) ≡ ⊖ (a ⊗ q) ⊕ a ⊗ (b ⊗ c)
  neg_product a b c q = sym (neg_mul F a (q ⊕ ⊖ (b ⊗ c))) ∙ mul-add (⊖ a) q (⊖ (b ⊗ c)) ∙ ap₂ ◌⊕◌ (neg_mul F a q) (neg_mul F a (⊖ (b ⊗ c)) ∙ ap ⊖◌ (mul_neg F a (b ⊗ c)) ∙ neg_neg F (a ⊗ (b ⊗ c)))

  swap_head : (a b c p q r : Carrier) → p ⊕ ⊖ (a ⊗ q) ≡ r ⊕ ⊖ (b ⊗ q) → p ⊕ ⊖ (a ⊗ (q ⊕ ⊖ (b ⊗ c))) ≡ r ⊕ ⊖ (b ⊗ (q ⊕ ⊖ (a ⊗ c)))
  swap_head a b c p q r h =
      ap (λ y. p ⊕ y) (neg_product a b c q)
      ∙ sym (add_assoc p (⊖ (a ⊗ q)) (a ⊗ (b ⊗ c)))
      ∙ ap₂ ◌⊕◌ h (mul_left_comm F a b c)
      ∙ add_assoc r (⊖ (b ⊗ q)) (b ⊗ (a ⊗ c))
      ∙ ap (λ y. r ⊕ y) (sym (neg_product b a c q))

  swap_tail : (q x y : Carrier) → q ⊕ x ⊕ y ≡ q ⊕ y ⊕ x
  swap_tail q x y = add_assoc q x y ∙ ap (λ z. q ⊕ z) (add_comm x y) ∙ sym (add_assoc q y x)

  -- two factors may be exchanged
  newton_swap : (a b p q r : Carrier) (cs : List Carrier) → p ⊕ ⊖ (a ⊗ q) ≡ r ⊕ ⊖ (b ⊗ q) → newton F a p (newton F b q cs) ≡ newton F b r (newton F a q cs)
  unfolding newton
  newton_swap a b p q r [] h = ap (λ y. y ∷ q ∷ []) h
  newton_swap a b p q r (c ∷ cs) h = ap₂ ◌∷◌ (swap_head a b c p q r h) (newton_swap a b (q ⊕ ⊖ (b ⊗ c)) c (q ⊕ ⊖ (a ⊗ c)) cs (swap_tail q (⊖ (b ⊗ c)) (⊖ (a ⊗ c))))

  -- so each factor of a product may stand first
  product_first : (xs : List Carrier) (x : Carrier) (ys : List Carrier) → product F (xs ++ (x ∷ ys)) ≡ newton F x 0f (product F (xs ++ ys))
  unfolding product
  product_first [] x ys = refl
  product_first (a ∷ xs) x ys =
      ap (newton F a 0f) (product_first xs x ys) ∙ newton_swap a x 0f 0f 0f (product F (xs ++ ys)) (ap (λ y. 0f ⊕ ⊖ y) (mul-zero F a ∙ sym (mul-zero F x)))

  -- the value of a product over joined lists
  eval_product_append : (xs ys : List Carrier) (z : Carrier) → eval F (product F (xs ++ ys)) z ≡ eval F (product F xs) z ⊗ eval F (product F ys) z
  eval_product_append [] ys z = sym (ap (λ y. y ⊗ eval F (product F ys) z) (eval_product_nil F z) ∙ one-mul F (eval F (product F ys) z))
  eval_product_append (a ∷ xs) ys z =
      eval_product F a (xs ++ ys) z
      ∙ ap (λ y. (z ⊕ ⊖ a) ⊗ y) (eval_product_append xs ys z)
      ∙ sym (mul_assoc (z ⊕ ⊖ a) (eval F (product F xs) z) (eval F (product F ys) z))
      ∙ ap (λ y. y ⊗ eval F (product F ys) z) (sym (eval_product F a xs z))

  -- the product over the points other than x is that over the points before it and after it
  pub others_split : (xs : List Carrier) (x : Carrier) (ys : List Carrier) → others F (xs ++ (x ∷ ys)) x ≡ product F (xs ++ ys)
  unfolding others
  others_split xs x ys = ap (λ p. quotient F x (drop 1 p)) (product_first xs x ys) ∙ quotient_after x 0f (product F (xs ++ ys))

  -- its value at z
  pub eval_others : (xs : List Carrier) (i : ℕ) (z : Carrier) → i < length xs → eval F (others F xs (get_or xs i 0f)) z ≡ eval F (product F (take i xs)) z ⊗ eval F (product F (drop (suc i) xs)) z
  eval_others xs i z l =
      ap (λ ys. eval F (others F ys (get_or xs i 0f)) z) (split_at xs i 0f l)
      ∙ ap (λ p. eval F p z) (others_split (take i xs) (get_or xs i 0f) (drop (suc i) xs))
      ∙ eval_product_append (take i xs) (drop (suc i) xs) z

  -- coefficient c of a basis polynomial
  get_or_basis : (xs : List Carrier) (x : Carrier) (c : ℕ) → c < length xs → get_or (basis F xs x) c 0f ≡ inv (eval F (others F xs x) x) ⊗ get_or (others F xs x) c 0f
  unfolding basis
  get_or_basis xs x c l = get_or-map (λ y. inv (eval F (others F xs x) x) ⊗ y) (others F xs x) c 0f 0f (omega (arith, length_others F xs x))

  -- the scales of two basis polynomials taken out of a term ..
  scales_out : (a u q b v : Carrier) → a ⊗ u ⊗ q ⊗ (b ⊗ v) ≡ a ⊗ b ⊗ (u ⊗ q ⊗ v)
  scales_out a u q b v = simp (mul_assoc, mul_left_comm F, mul_comm)

  -- .. and out of a sum
  pub basis_sum : (k : ℕ) (xs ys : List Carrier) (x y : Carrier) (q : ℕ → Carrier) → length xs ≡ k → length ys ≡ k → sum F k (λ c. get_or (basis F xs x) c 0f ⊗ q c ⊗ get_or (basis F ys y) c 0f) ≡ inv (eval F (others F xs x) x) ⊗ inv (eval F (others F ys y) y) ⊗ sum F k (λ c. get_or (others F xs x) c 0f ⊗ q c ⊗ get_or (others F ys y) c 0f)
  basis_sum k xs ys x y q lx ly =
      let a = inv (eval F (others F xs x) x) in
      let b = inv (eval F (others F ys y) y) in
      sum_agree F k (λ c. get_or (basis F xs x) c 0f ⊗ q c ⊗ get_or (basis F ys y) c 0f) (λ c. a ⊗ b ⊗ (get_or (others F xs x) c 0f ⊗ q c ⊗ get_or (others F ys y) c 0f))
      (λ c l. ap₂ (λ u v. u ⊗ q c ⊗ v) (get_or_basis xs x c (omega arith)) (get_or_basis ys y c (omega arith)) ∙ scales_out a (get_or (others F xs x) c 0f) (q c) b (get_or (others F ys y) c 0f))
      ∙ sum_scale F k (a ⊗ b) (λ c. get_or (others F xs x) c 0f ⊗ q c ⊗ get_or (others F ys y) c 0f)
