-- The ring laws that follow from a field's.
use mathlib.Core.Path.{◌≡◌, sym, ap, ◌∙◌}
use Rattle.algebra.specs.Field.{Field}

module _ (F : Field) where
  infixl 70 ◌⊕◌
  infixl 80 ◌⊗◌
  infix 90 ⊖◌
  open F use {Carrier, 0f, 1f, add as ◌⊕◌, mul as ◌⊗◌, neg as ⊖◌, inv}
  open F use {add_comm, add_assoc, add-zero, add_neg, mul_comm, mul_assoc, mul-add, mul-one, mul_inv}

  -- the first two terms of a longer sum exchanged
  pub add_left_comm : (a b c : Carrier) → a ⊕ (b ⊕ c) ≡ b ⊕ (a ⊕ c)
  add_left_comm a b c = sym (add_assoc a b c) ∙ ap (λ x. x ⊕ c) (add_comm a b) ∙ add_assoc b a c

  -- the first two factors of a longer product exchanged
  pub mul_left_comm : (a b c : Carrier) → a ⊗ (b ⊗ c) ≡ b ⊗ (a ⊗ c)
  mul_left_comm a b c = sym (mul_assoc a b c) ∙ ap (λ x. x ⊗ c) (mul_comm a b) ∙ mul_assoc b a c

  -- zero on the left of a sum
  pub zero-add : (a : Carrier) → 0f ⊕ a ≡ a
  zero-add a = add_comm 0f a ∙ add-zero a

  -- one on the left of a product
  pub one-mul : (a : Carrier) → 1f ⊗ a ≡ a
  one-mul a = mul_comm 1f a ∙ mul-one a

  -- distributivity from the right
  pub add-mul : (a b c : Carrier) → (a ⊕ b) ⊗ c ≡ (a ⊗ c) ⊕ (b ⊗ c)
  add-mul a b c = simp (mul_comm, mul-add)

  -- the negative on the left of a sum
  pub neg_add : (a : Carrier) → ⊖ a ⊕ a ≡ 0f
  neg_add a = add_comm (⊖ a) a ∙ add_neg a

  -- −a + a drops out of a longer sum
  pub neg_add_left : (a b : Carrier) → ⊖ a ⊕ (a ⊕ b) ≡ b
  neg_add_left a b = rw (← add_assoc, neg_add, zero-add)

  -- a common first term may be left out
  pub add_cancel : (a b c : Carrier) → a ⊕ b ≡ a ⊕ c → b ≡ c
  add_cancel a b c h = sym (neg_add_left a b) ∙ ap (λ x. ⊖ a ⊕ x) h ∙ neg_add_left a c

  -- a common last term may be left out
  pub add_cancel_right : (a b c : Carrier) → a ⊕ c ≡ b ⊕ c → a ≡ b
  add_cancel_right a b c h = add_cancel c a b (add_comm c a ∙ h ∙ add_comm b c)

  -- a product with zero on the right
  pub mul-zero : (a : Carrier) → a ⊗ 0f ≡ 0f
  mul-zero a = add_cancel (a ⊗ 0f) (a ⊗ 0f) 0f (sym (mul-add a 0f 0f) ∙ rw (add-zero 0f, add-zero))

  -- a product with zero on the left
  pub zero-mul : (a : Carrier) → 0f ⊗ a ≡ 0f
  zero-mul a = mul_comm 0f a ∙ mul-zero a

  -- the negative is the only element that adds to zero
  pub neg_unique : (a b : Carrier) → a ⊕ b ≡ 0f → b ≡ ⊖ a
  neg_unique a b h = add_cancel a b (⊖ a) (h ∙ sym (add_neg a))

  -- the negative of the negative
  pub neg_neg : (a : Carrier) → ⊖ (⊖ a) ≡ a
  neg_neg a = sym (neg_unique (⊖ a) a (neg_add a))

  -- the negative of zero
  pub neg_zero : ⊖ 0f ≡ 0f
  neg_zero = sym (neg_unique 0f 0f (add-zero 0f))

  -- a negative factor on the right
  pub mul_neg : (a b : Carrier) → a ⊗ ⊖ b ≡ ⊖ (a ⊗ b)
  mul_neg a b = neg_unique (a ⊗ b) (a ⊗ ⊖ b) (rw (← mul-add, add_neg, mul-zero))

  -- a negative factor on the left
  pub neg_mul : (a b : Carrier) → ⊖ a ⊗ b ≡ ⊖ (a ⊗ b)
  neg_mul a b = mul_comm (⊖ a) b ∙ mul_neg b a ∙ ap ⊖◌ (mul_comm b a)

  -- a difference is zero only for equal elements
  pub sub-zero : (a b : Carrier) → a ⊕ ⊖ b ≡ 0f → a ≡ b
  sub-zero a b h = sym (neg_neg a) ∙ ap ⊖◌ (sym (neg_unique a (⊖ b) h)) ∙ neg_neg b

  -- a + (b − a) = b
  pub sub_cancel : (a b : Carrier) → a ⊕ (b ⊕ ⊖ a) ≡ b
  sub_cancel a b = rw (add_left_comm, add_neg, add-zero)

  -- a + b − b = a
  pub add_sub : (a b : Carrier) → a ⊕ b ⊕ ⊖ b ≡ a
  add_sub a b = rw (add_assoc, add_neg, add-zero)

  -- a − b + b = a
  pub sub_add : (a b : Carrier) → a ⊕ ⊖ b ⊕ b ≡ a
  sub_add a b = rw (add_assoc, neg_add, add-zero)

  -- the inverse on the left of a product
  pub inv_mul : (a : Carrier) → (a ≡ 0f → ⊥) → inv a ⊗ a ≡ 1f
  inv_mul a h = mul_comm (inv a) a ∙ mul_inv a h

  -- a · (b / a) = b
  pub mul_inv_left : (a b : Carrier) → (a ≡ 0f → ⊥) → a ⊗ (inv a ⊗ b) ≡ b
  mul_inv_left a b h = rw (← mul_assoc, mul_inv a h, one-mul)

  -- (a · b) / a = b
  pub inv_mul_left : (a b : Carrier) → (a ≡ 0f → ⊥) → inv a ⊗ (a ⊗ b) ≡ b
  inv_mul_left a b h = rw (← mul_assoc, inv_mul a h, one-mul)

  -- a common first factor that is not zero may be left out
  pub mul_cancel : (a b c : Carrier) → (a ≡ 0f → ⊥) → a ⊗ b ≡ a ⊗ c → b ≡ c
  mul_cancel a b c h e = sym (inv_mul_left a b h) ∙ ap (λ x. inv a ⊗ x) e ∙ inv_mul_left a c h

  -- a common last factor that is not zero may be left out
  pub mul_cancel_right : (a b c : Carrier) → (c ≡ 0f → ⊥) → a ⊗ c ≡ b ⊗ c → a ≡ b
  mul_cancel_right a b c n h = mul_cancel c a b n (mul_comm c a ∙ h ∙ mul_comm b c)

  -- a field has no zero divisors
  pub no_divisors : (a b : Carrier) → (a ≡ 0f → ⊥) → a ⊗ b ≡ 0f → b ≡ 0f
  no_divisors a b h e = mul_cancel a b 0f h (e ∙ sym (mul-zero a))

  -- a product of elements that are not zero is not zero
  pub mul_nonzero : (a b : Carrier) → (a ≡ 0f → ⊥) → (b ≡ 0f → ⊥) → a ⊗ b ≡ 0f → ⊥
  mul_nonzero a b h k e = k (no_divisors a b h e)
