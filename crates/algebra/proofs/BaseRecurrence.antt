-- The base polynomial p(x) = Π_{i<m} (x − a^i) at a·x, from its value at x.
use mathlib.Core.Path.{◌≡◌, sym, ap, ap₂, ◌∙◌}
use mathlib.Core.List.{map}
use Prim.Native.Nat.{ℕ, zero, suc, ◌+◌, ◌<◌}
use native.Mathlib.Omega.{arith}
use Rattle.lists.proofs.Places.{below}
use Rattle.algebra.specs.Field.{Field}
use Rattle.algebra.specs.Powers.{pow, Order}
use Rattle.algebra.proofs.Ring.{mul_left_comm, one-mul, mul_neg, sub-zero, mul_cancel, mul_cancel_right}
use Rattle.algebra.proofs.Poly.{eval}
use Rattle.algebra.proofs.Product.{eval_product, eval_product_nil}
use Rattle.algebra.proofs.Powers.{pow_add, pow_nonzero, order_nonzero}
use Rattle.algebra.proofs.BasePolynomial.{base}

module _ (F : Field) where
  infixl 70 ◌⊕◌
  infixl 80 ◌⊗◌
  infix 90 ⊖◌
  open F use {Carrier, 0f, 1f, add as ◌⊕◌, mul as ◌⊗◌, neg as ⊖◌, inv}
  open F use {mul_comm, mul_assoc, mul-add, mul-one, mul_inv}

  -- for m = 0 the value is 1
  base_none : (a x : Carrier) → eval F (base F a 0) x ≡ 1f
  unfolding base
  base_none a x = eval_product_nil F x

  -- one factor more
  base_more : (a x : Carrier) (m : ℕ) → eval F (base F a (suc m)) x ≡ (x ⊕ ⊖ pow F a m) ⊗ eval F (base F a m) x
  unfolding base
  base_more a x m = eval_product F (pow F a m) (map (pow F a) (below m)) x

  -- a factor taken out of a difference
  sub_scale : (a x y : Carrier) → a ⊗ x ⊕ ⊖ (a ⊗ y) ≡ a ⊗ (x ⊕ ⊖ y)
  sub_scale a x y = ap (λ z. a ⊗ x ⊕ z) (sym (mul_neg F a y)) ∙ sym (mul-add a x (⊖ y))

  regroup : (a u q t v : Carrier) → a ⊗ u ⊗ (q ⊗ t ⊗ v) ≡ a ⊗ q ⊗ t ⊗ (u ⊗ v)
  regroup a u q t v = simp (mul_assoc, mul_left_comm F)

  -- all factors of p(a·x) but a·x − 1 are a times those of p(x), one factor down
  base_dilated : (a x : Carrier) (m : ℕ) → eval F (base F a (suc m)) (a ⊗ x) ≡ pow F a m ⊗ (a ⊗ x ⊕ ⊖ 1f) ⊗ eval F (base F a m) x
  base_dilated a x zero =
      base_more a (a ⊗ x) 0 ∙ ap₂ ◌⊗◌ (sym (one-mul F (a ⊗ x ⊕ ⊖ 1f))) (base_none a (a ⊗ x) ∙ sym (base_none a x))
  base_dilated a x (suc m) =
      base_more a (a ⊗ x) (suc m)
      ∙ ap₂ ◌⊗◌ (sub_scale a x (pow F a m)) (base_dilated a x m)
      ∙ regroup a (x ⊕ ⊖ pow F a m) (pow F a m) (a ⊗ x ⊕ ⊖ 1f) (eval F (base F a m) x)
      ∙ ap (λ z. a ⊗ pow F a m ⊗ (a ⊗ x ⊕ ⊖ 1f) ⊗ z) (sym (base_more a x m))

  -- q·(a·x − 1) = a·q·x − q
  first_factor : (a q x : Carrier) → q ⊗ (a ⊗ x ⊕ ⊖ 1f) ≡ a ⊗ q ⊗ x ⊕ ⊖ q
  first_factor a q x = sym (sub_scale q (a ⊗ x) 1f) ∙ ap₂ (λ y z. y ⊕ ⊖ z) (simp (mul_assoc, mul_left_comm F)) (mul-one q)

  exchange : (s v u : Carrier) → s ⊗ v ⊗ u ≡ s ⊗ (u ⊗ v)
  exchange s v u = simp (mul_assoc, mul_comm)

  -- p(a·x)·(x − e) = (a^m·x − e)·p(x), where e = a^(m−1)
  pub base_recurrence : (a x e : Carrier) (m : ℕ) → (a ≡ 0f → ⊥) → a ⊗ e ≡ pow F a m → eval F (base F a m) (a ⊗ x) ⊗ (x ⊕ ⊖ e) ≡ (pow F a m ⊗ x ⊕ ⊖ e) ⊗ eval F (base F a m) x
  base_recurrence a x e zero h r =
      ap₂ ◌⊗◌ (base_none a (a ⊗ x)) (ap (λ y. y ⊕ ⊖ e) (sym (one-mul F x)))
      ∙ mul_comm 1f (1f ⊗ x ⊕ ⊖ e)
      ∙ ap (λ y. (1f ⊗ x ⊕ ⊖ e) ⊗ y) (sym (base_none a x))
  base_recurrence a x e (suc m) h r =
      let q = pow F a m in
      let v = eval F (base F a m) x in
      let same : e ≡ q = mul_cancel F a e q h r in
      ap₂ (λ y z. y ⊗ (x ⊕ ⊖ z)) (base_dilated a x m ∙ ap (λ y. y ⊗ v) (first_factor a q x)) same
      ∙ exchange (a ⊗ q ⊗ x ⊕ ⊖ q) v (x ⊕ ⊖ q)
      ∙ ap₂ (λ y z. (a ⊗ q ⊗ x ⊕ ⊖ y) ⊗ z) (sym same) (sym (base_more a x m))

  -- from u·d = s·v to u
  divided : (u d s v : Carrier) → (d ≡ 0f → ⊥) → u ⊗ d ≡ s ⊗ v → u ≡ v ⊗ s ⊗ inv d
  divided u d s v h r =
      sym (mul-one u) ∙ ap (λ y. u ⊗ y) (sym (mul_inv d h)) ∙ sym (mul_assoc u d (inv d)) ∙ ap (λ y. y ⊗ inv d) (r ∙ mul_comm s v)

  -- p(a·x) = p(x)·(a^m·x − e) / (x − e)
  pub base_next : (a x e : Carrier) (m : ℕ) → (a ≡ 0f → ⊥) → a ⊗ e ≡ pow F a m → (x ≡ e → ⊥) → eval F (base F a m) (a ⊗ x) ≡ eval F (base F a m) x ⊗ (pow F a m ⊗ x ⊕ ⊖ e) ⊗ inv (x ⊕ ⊖ e)
  base_next a x e m h r n =
      divided (eval F (base F a m) (a ⊗ x)) (x ⊕ ⊖ e) (pow F a m ⊗ x ⊕ ⊖ e) (eval F (base F a m) x) (λ z. n (sub-zero F x e z)) (base_recurrence a x e m h r)

  module _ (a : Carrier) (n : ℕ) (o : Order F a n) where
    -- the exponent i is m − 1 modulo n
    pub pow_before : (m i : ℕ) → suc i ≡ n + m → a ⊗ pow F a i ≡ pow F a m
    pow_before m i q = ap (pow F a) q ∙ pow_add F a n m ∙ ap (λ y. y ⊗ pow F a m) o.returns ∙ one-mul F (pow F a m)

    -- then a^(j + m) is not a^i while j is below n − 1
    pub pow_apart : (m i j : ℕ) → suc i ≡ n + m → j + 1 < n → pow F a (j + m) ≡ pow F a i → ⊥
    pow_apart m i j q l r =
        let moved : j + 1 + m ≡ suc (j + m) = omega arith in
        o.least (j + 1) (omega arith) l
        (mul_cancel_right F (pow F a (j + 1)) 1f (pow F a m) (pow_nonzero F a (order_nonzero F a n o) m)
        (sym (pow_add F a (j + 1) m) ∙ ap (pow F a) moved ∙ ap (λ y. a ⊗ y) r ∙ pow_before m i q ∙ sym (one-mul F (pow F a m))))
