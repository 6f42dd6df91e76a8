-- The laws of a field on the numbers below q, and what follows from them alone.
use mathlib.Core.Path.{◌≡◌, sym, ap, ◌∙◌}
use Prim.Native.Nat.{ℕ, ◌<◌}
use native.Mathlib.Omega.{arith}

-- sums, differences and products of the numbers below q make a field
pub record Arithmetic (q : ℕ) (add sub mul : ℕ → ℕ → ℕ) : Type 0 where
  pub one_below : 1 < q
  pub add_below : (a b : ℕ) → a < q → b < q → add a b < q
  pub sub_below : (a b : ℕ) → a < q → b < q → sub a b < q
  pub mul_below : (a b : ℕ) → a < q → b < q → mul a b < q
  pub add_assoc : (a b c : ℕ) → a < q → b < q → c < q → add (add a b) c ≡ add a (add b c)
  pub add_comm : (a b : ℕ) → a < q → b < q → add a b ≡ add b a
  pub add-zero : (a : ℕ) → a < q → add a 0 ≡ a
  pub sub_add : (a b : ℕ) → a < q → b < q → add (sub a b) b ≡ a
  pub mul_assoc : (a b c : ℕ) → a < q → b < q → c < q → mul (mul a b) c ≡ mul a (mul b c)
  pub mul_comm : (a b : ℕ) → a < q → b < q → mul a b ≡ mul b a
  pub mul-one : (a : ℕ) → a < q → mul a 1 ≡ a
  pub mul-add : (a b c : ℕ) → a < q → b < q → c < q → mul a (add b c) ≡ add (mul a b) (mul a c)
  pub invertible : (a : ℕ) → 0 < a → a < q → (r : ℕ) × (r < q) × (mul a r ≡ 1)

module _ {q : ℕ} {add sub mul : ℕ → ℕ → ℕ} (A : Arithmetic q add sub mul) where
  open A use {one_below, sub_below, mul_below, add_assoc, add_comm, add-zero, sub_add, mul_assoc, mul_comm, mul-one, mul-add}

  pub zero_below : 0 < q
  zero_below = omega (arith, one_below)

  -- a and its opposite
  pub add_neg : (a : ℕ) → a < q → add a (sub 0 a) ≡ 0
  add_neg a ha = add_comm a (sub 0 a) ha (sub_below 0 a zero_below ha) ∙ sub_add 0 a zero_below ha

  -- what is added is taken away again
  pub add_back : (a b : ℕ) → a < q → b < q → add (add a b) (sub 0 b) ≡ a
  add_back a b ha hb =
      add_assoc a b (sub 0 b) ha hb (sub_below 0 b zero_below hb) ∙ ap (add a) (add_neg b hb) ∙ add-zero a ha

  -- a difference is the sum with the opposite
  pub sub_is : (a b : ℕ) → a < q → b < q → sub a b ≡ add a (sub 0 b)
  sub_is a b ha hb =
      sym (add_back (sub a b) b (sub_below a b ha hb) hb) ∙ ap (λ (x : ℕ). add x (sub 0 b)) (sub_add a b ha hb)

  pub mul-zero : (a : ℕ) → a < q → mul a 0 ≡ 0
  mul-zero a ha =
      let z = mul a 0 in
      let hz : z < q = mul_below a 0 ha zero_below in
      let twice : add z z ≡ z = sym (mul-add a 0 0 ha zero_below zero_below) ∙ ap (mul a) (add-zero 0 zero_below) in
      sym (add_back z z hz hz) ∙ ap (λ (x : ℕ). add x (sub 0 z)) twice ∙ add_neg z hz

  pub zero-mul : (a : ℕ) → a < q → mul 0 a ≡ 0
  zero-mul a ha = mul_comm 0 a zero_below ha ∙ mul-zero a ha

  pub one-mul : (a : ℕ) → a < q → mul 1 a ≡ a
  one-mul a ha = mul_comm 1 a one_below ha ∙ mul-one a ha

  -- two inverses of a number are equal
  pub one_inverse : (a r s : ℕ) → a < q → r < q → s < q → mul a r ≡ 1 → mul a s ≡ 1 → r ≡ s
  one_inverse a r s ha hr hs e f =
      sym (mul-one r hr) ∙ ap (mul r) (sym f) ∙ sym (mul_assoc r a s hr ha hs)
      ∙ ap (λ (x : ℕ). mul x s) (mul_comm r a hr ha ∙ e) ∙ one-mul s hs

  -- a product with a number that is not 0 is 0 only where the other factor is
  pub no_divisors : (a b : ℕ) → a < q → b < q → (a ≡ 0 → ⊥) → mul a b ≡ 0 → b ≡ 0
  no_divisors a b ha hb some e =
      let (r, hr, one) = A.invertible a (omega arith) ha in
      sym (one-mul b hb)
      ∙ ap (λ (x : ℕ). mul x b) (sym (mul_comm r a hr ha ∙ one))
      ∙ mul_assoc r a b hr ha hb
      ∙ ap (mul r) e
      ∙ mul-zero r hr
