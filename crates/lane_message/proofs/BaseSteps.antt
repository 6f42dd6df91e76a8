-- The coefficients of the base polynomial Π_{i<m} (x − a^i), each from the one above it: (a^m − a^(m+c)) times coefficient c is (a^(m+1) − a^c) times coefficient c − 1.
use mathlib.Core.Path.{◌≡◌, refl, sym, ap, ap₂, ◌∙◌}
use mathlib.Core.List.{List, [], ◌∷◌}
use Prim.Native.Nat.{ℕ, zero, suc}
use lib.ListN.{get_or}
use Rattle.algebra.specs.Field.{Field}
use Rattle.algebra.specs.Powers.{pow}
use Rattle.algebra.proofs.Ring.{add_left_comm, add-mul, neg_add, neg_unique, neg_zero, mul-zero, zero-mul, mul_neg, neg_mul, mul_left_comm, mul_cancel}
use Rattle.algebra.proofs.Poly.{newton}
use Rattle.algebra.proofs.Product.{product}
use Rattle.algebra.proofs.BasePolynomial.{base}

module _ (F : Field) where
  infixl 70 ◌⊕◌
  infixl 80 ◌⊗◌
  infix 90 ⊖◌
  open F use {Carrier, 0f, 1f, add as ◌⊕◌, mul as ◌⊗◌, neg as ⊖◌, inv}
  open F use {add_assoc, add-zero, add_neg, mul_comm, mul_assoc, mul-add, mul-one, mul_inv}

  -- differences
  sub_scale : (a x y : Carrier) → a ⊗ (x ⊕ ⊖ y) ≡ a ⊗ x ⊕ ⊖ (a ⊗ y)
  sub_scale a x y = mul-add a x (⊖ y) ∙ ap (λ z. a ⊗ x ⊕ z) (mul_neg F a y)

  neg_sub : (v x : Carrier) → ⊖ (v ⊕ ⊖ x) ≡ ⊖ v ⊕ x
  neg_sub v x =
      sym
      (neg_unique F (v ⊕ ⊖ x) (⊖ v ⊕ x)
      (add_assoc v (⊖ x) (⊖ v ⊕ x)
      ∙ ap (λ z. v ⊕ z) (add_left_comm F (⊖ x) (⊖ v) x ∙ ap (λ z. ⊖ v ⊕ z) (neg_add F x) ∙ add-zero (⊖ v))
      ∙ add_neg v))

  sub_sub : (u v x : Carrier) → u ⊕ ⊖ x ⊕ ⊖ (v ⊕ ⊖ x) ≡ u ⊕ ⊖ v
  sub_sub u v x =
      ap (λ z. u ⊕ ⊖ x ⊕ z) (neg_sub v x)
      ∙ add_assoc u (⊖ x) (⊖ v ⊕ x)
      ∙ ap (λ z. u ⊕ z) (add_left_comm F (⊖ x) (⊖ v) x ∙ ap (λ z. ⊖ v ⊕ z) (neg_add F x) ∙ add-zero (⊖ v))

  -- s·(x − q·y) with s taken into both terms, and p taken out again
  spread : (s x q y : Carrier) → s ⊗ (x ⊕ ⊖ (q ⊗ y)) ≡ s ⊗ x ⊕ ⊖ (q ⊗ (s ⊗ y))
  spread s x q y = sub_scale s x (q ⊗ y) ∙ ap (λ z. s ⊗ x ⊕ ⊖ z) (mul_left_comm F s q y)

  together : (x q y p : Carrier) → x ⊗ p ⊕ ⊖ (q ⊗ (y ⊗ p)) ≡ (x ⊕ ⊖ (q ⊗ y)) ⊗ p
  together x q y p = ap (λ z. x ⊗ p ⊕ ⊖ z) (sym (mul_assoc q y p)) ∙ ap (λ z. x ⊗ p ⊕ z) (sym (neg_mul F (q ⊗ y) p)) ∙ sym (add-mul F x (⊖ (q ⊗ y)) p)

  -- one factor more: from the relations of coefficients b, p and of p, r to that of p − q·b and r − q·p
  module _ (a q c b p r : Carrier) (here : (q ⊕ ⊖ (q ⊗ c)) ⊗ b ≡ (a ⊗ q ⊕ ⊖ c) ⊗ p) (below : (a ⊗ q ⊕ ⊖ (q ⊗ c)) ⊗ p ≡ (a ⊗ (a ⊗ q) ⊕ ⊖ c) ⊗ r) where
    left_side : (a ⊗ q ⊕ ⊖ (a ⊗ q ⊗ c)) ⊗ (p ⊕ ⊖ (q ⊗ b)) ≡ (a ⊗ q ⊕ ⊖ (q ⊗ (a ⊗ (a ⊗ q)))) ⊗ p
    left_side =
        let t = q ⊕ ⊖ (q ⊗ c) in
        ap (λ z. z ⊗ (p ⊕ ⊖ (q ⊗ b))) (ap (λ z. a ⊗ q ⊕ ⊖ z) (mul_assoc a q c) ∙ sym (sub_scale a q (q ⊗ c)))
        ∙ spread (a ⊗ t) p q b
        ∙ ap (λ z. a ⊗ t ⊗ p ⊕ ⊖ (q ⊗ z)) (mul_assoc a t b ∙ ap (λ z. a ⊗ z) here ∙ sym (mul_assoc a (a ⊗ q ⊕ ⊖ c) p))
        ∙ together (a ⊗ t) q (a ⊗ (a ⊗ q ⊕ ⊖ c)) p
        ∙ ap (λ z. z ⊗ p)
        (ap₂ (λ y z. y ⊕ ⊖ z) (sub_scale a q (q ⊗ c))
        (ap (λ z. q ⊗ z) (sub_scale a (a ⊗ q) c) ∙ sub_scale q (a ⊗ (a ⊗ q)) (a ⊗ c) ∙ ap (λ z. q ⊗ (a ⊗ (a ⊗ q)) ⊕ ⊖ z) (mul_left_comm F q a c))
        ∙ sub_sub (a ⊗ q) (q ⊗ (a ⊗ (a ⊗ q))) (a ⊗ (q ⊗ c)))

    right_side : (a ⊗ (a ⊗ q) ⊕ ⊖ c) ⊗ (r ⊕ ⊖ (q ⊗ p)) ≡ (a ⊗ q ⊕ ⊖ (q ⊗ (a ⊗ (a ⊗ q)))) ⊗ p
    right_side =
        let u = a ⊗ (a ⊗ q) ⊕ ⊖ c in
        spread u r q p
        ∙ ap (λ z. z ⊕ ⊖ (q ⊗ (u ⊗ p))) (sym below)
        ∙ together (a ⊗ q ⊕ ⊖ (q ⊗ c)) q u p
        ∙ ap (λ z. z ⊗ p) (ap (λ z. a ⊗ q ⊕ ⊖ (q ⊗ c) ⊕ ⊖ z) (sub_scale q (a ⊗ (a ⊗ q)) c) ∙ sub_sub (a ⊗ q) (q ⊗ (a ⊗ (a ⊗ q))) (q ⊗ c))

    one_more : (a ⊗ q ⊕ ⊖ (a ⊗ q ⊗ c)) ⊗ (p ⊕ ⊖ (q ⊗ b)) ≡ (a ⊗ (a ⊗ q) ⊕ ⊖ c) ⊗ (r ⊕ ⊖ (q ⊗ p))
    one_more = left_side ∙ sym right_side

  -- coefficient c, and the one before it, which is p for the first
  abbrev at : List Carrier → ℕ → Carrier
  at qs c = get_or qs c 0f

  before : Carrier → List Carrier → ℕ → Carrier
  before p qs zero = p
  before p qs (suc c) = at qs c

  before_cons : (p q : Carrier) (qs : List Carrier) (c : ℕ) → before q qs c ≡ at (q ∷ qs) c
  unfolding before
  before_cons p q qs zero = refl
  before_cons p q qs (suc c) = refl

  nothing : (p a : Carrier) → p ≡ p ⊕ ⊖ (a ⊗ 0f)
  nothing p a = sym (ap (λ z. p ⊕ z) (ap ⊖◌ (mul-zero F a) ∙ neg_zero F) ∙ add-zero p)

  -- the coefficients of p + (x − a)·q(x)
  newton_at : (a p : Carrier) (qs : List Carrier) (c : ℕ) → at (newton F a p qs) c ≡ before p qs c ⊕ ⊖ (a ⊗ at qs c)
  unfolding newton before
  newton_at a p [] zero = nothing p a
  newton_at a p [] (suc c) = nothing 0f a
  newton_at a p (q ∷ qs) zero = refl
  newton_at a p (q ∷ qs) (suc c) = newton_at a q qs c ∙ ap (λ z. z ⊕ ⊖ (a ⊗ at qs c)) (before_cons p q qs c)

  module _ (a : Carrier) where
    abbrev same : ℕ → ℕ → Type 0
    same m c = (pow F a m ⊕ ⊖ (pow F a m ⊗ pow F a c)) ⊗ at (base F a m) c ≡ (a ⊗ pow F a m ⊕ ⊖ pow F a c) ⊗ before 0f (base F a m) c

    -- the first coefficient has none before it
    first : (q b u : Carrier) → (q ⊕ ⊖ (q ⊗ 1f)) ⊗ b ≡ u ⊗ 0f
    first q b u = ap (λ z. (q ⊕ ⊖ z) ⊗ b) (mul-one q) ∙ ap (λ z. z ⊗ b) (add_neg q) ∙ zero-mul F b ∙ sym (mul-zero F u)

    none : (u v : Carrier) → u ⊗ 0f ≡ v ⊗ 0f
    none u v = mul-zero F u ∙ sym (mul-zero F v)

    base_same : (m c : ℕ) → same m c
    unfolding base product before
    base_same zero zero = first 1f 1f (a ⊗ 1f ⊕ ⊖ 1f)
    base_same zero (suc zero) = mul-zero F _ ∙ sym (ap (λ z. z ⊗ 1f) (add_neg (a ⊗ 1f)) ∙ zero-mul F 1f)
    base_same zero (suc (suc c)) = none _ _
    base_same (suc m) zero = first (a ⊗ pow F a m) _ _
    base_same (suc m) (suc c) =
        let q = pow F a m in
        let x = pow F a c in
        let bs = base F a m in
        let r = before 0f bs c in
        let p = at bs c in
        let down : (a ⊗ q ⊕ ⊖ (q ⊗ (a ⊗ x))) ⊗ p ≡ (a ⊗ (a ⊗ q) ⊕ ⊖ (a ⊗ x)) ⊗ r =
        ap (λ z. z ⊗ p) (ap (λ z. a ⊗ q ⊕ ⊖ z) (mul_left_comm F q a x) ∙ sym (sub_scale a q (q ⊗ x)))
        ∙ mul_assoc a (q ⊕ ⊖ (q ⊗ x)) p
        ∙ ap (λ z. a ⊗ z) (base_same m c)
        ∙ sym (mul_assoc a (a ⊗ q ⊕ ⊖ x) r)
        ∙ ap (λ z. z ⊗ r) (sub_scale a (a ⊗ q) x) in
        ap (λ z. (a ⊗ q ⊕ ⊖ (a ⊗ q ⊗ (a ⊗ x))) ⊗ z) (newton_at q 0f bs (suc c))
        ∙ one_more a q (a ⊗ x) (at bs (suc c)) p r (base_same m (suc c)) down
        ∙ ap (λ z. (a ⊗ (a ⊗ q) ⊕ ⊖ (a ⊗ x)) ⊗ z) (sym (newton_at q 0f bs c))

    -- the inverse of a coefficient from that of the one above it
    divided : (d x u y : Carrier) → (d ≡ 0f → ⊥) → (x ≡ 0f → ⊥) → (y ≡ 0f → ⊥) → d ⊗ x ≡ u ⊗ y → inv y ≡ u ⊗ inv d ⊗ inv x
    divided d x u y hd hx hy e =
        mul_cancel F y (inv y) (u ⊗ inv d ⊗ inv x) hy
        (mul_inv y hy
        ∙ sym
        (ap (λ z. y ⊗ z) (mul_assoc u (inv d) (inv x))
        ∙ sym (mul_assoc y u (inv d ⊗ inv x))
        ∙ ap (λ z. z ⊗ (inv d ⊗ inv x)) (mul_comm y u ∙ sym e)
        ∙ mul_assoc d x (inv d ⊗ inv x)
        ∙ ap (λ z. d ⊗ z) (mul_left_comm F x (inv d) (inv x) ∙ ap (λ z. inv d ⊗ z) (mul_inv x hx) ∙ mul-one (inv d))
        ∙ mul_inv d hd))

    pub inverse_below : (m c : ℕ) → (pow F a m ⊗ (1f ⊕ ⊖ pow F a (suc c)) ≡ 0f → ⊥) → (at (base F a m) (suc c) ≡ 0f → ⊥) → (at (base F a m) c ≡ 0f → ⊥) → inv (at (base F a m) c) ≡ (a ⊗ pow F a m ⊕ ⊖ pow F a (suc c)) ⊗ inv (pow F a m ⊗ (1f ⊕ ⊖ pow F a (suc c))) ⊗ inv (at (base F a m) (suc c))
    unfolding before
    inverse_below m c hd hx hy =
        let q = pow F a m in
        divided (q ⊗ (1f ⊕ ⊖ pow F a (suc c))) (at (base F a m) (suc c)) (a ⊗ q ⊕ ⊖ pow F a (suc c)) (at (base F a m) c) hd hx hy
        (ap (λ z. z ⊗ at (base F a m) (suc c)) (sub_scale q 1f (pow F a (suc c)) ∙ ap (λ z. z ⊕ ⊖ (q ⊗ pow F a (suc c))) (mul-one q)) ∙ base_same m (suc c))
