-- Powers: one more, and by squaring.
use mathlib.Core.Path.{◌≡◌, refl, sym, ap, ◌∙◌}
use mathlib.Core.Bool.{true}
use Prim.Native.Nat.{ℕ, zero, suc, ◌+◌, ◌/◌, ◌%◌, ◌<◌}
use native.Mathlib.Nat.{zero-add, suc-add}
use native.Mathlib.Numerals.{add-one}
use native.Mathlib.Omega.{arith}
use Rattle.field.specs.Fields.{is_field, size_of, mul, power}
use Rattle.field.proofs.Arithmetic.{one-mul}
use Rattle.field.proofs.BothKinds.{arithmetic}
use Rattle.field.proofs.Bounds.{mul_below, power_below}

-- one power more
pub power_next : (p a e : ℕ) → power p a (e + 1) ≡ mul p a (power p a e)
unfolding power
power_next p a e = ap (power p a) (add-one e)

module _ (p : ℕ) (v : is_field p ≡ true) where
  -- exponents add
  pub power_add : (a i j : ℕ) → a < size_of p → mul p (power p a i) (power p a j) ≡ power p a (i + j)
  unfolding power
  power_add a zero j ha = one-mul (arithmetic p v) (power p a j) (power_below p v j ha) ∙ ap (power p a) (sym (zero-add j))
  power_add a (suc i) j ha =
      (arithmetic p v).mul_assoc a (power p a i) (power p a j) ha (power_below p v i ha) (power_below p v j ha)
      ∙ ap (mul p a) (power_add a i j ha)
      ∙ ap (power p a) (sym (suc-add i j))

  -- a power of a square
  power_square : (a m : ℕ) → a < size_of p → power p (mul p a a) m ≡ power p a (m + m)
  unfolding power
  power_square a zero ha = refl
  power_square a (suc m) ha =
      let twice : suc (suc (m + m)) ≡ suc m + suc m = omega arith in
      ap (mul p (mul p a a)) (power_square a m ha)
      ∙ (arithmetic p v).mul_assoc a a (power p a (m + m)) ha ha (power_below p v (m + m) ha)
      ∙ ap (power p a) twice

  -- before the first step
  pub power_start : (a e : ℕ) → a < size_of p → mul p 1 (power p a e) ≡ power p a e
  power_start a e ha = one-mul (arithmetic p v) (power p a e) (power_below p v e ha)

  -- one step of squaring, where k is even and where it is odd
  pub power_even : (r a k : ℕ) → a < size_of p → (k % 2 ≡ 1 → ⊥) → mul p r (power p (mul p a a) (k / 2)) ≡ mul p r (power p a k)
  power_even r a k ha h =
      let twice : k / 2 + k / 2 ≡ k = omega arith in
      ap (mul p r) (power_square a (k / 2) ha ∙ ap (power p a) twice)

  pub power_odd : (r a k : ℕ) → r < size_of p → a < size_of p → k % 2 ≡ 1 → mul p (mul p r a) (power p (mul p a a) (k / 2)) ≡ mul p r (power p a k)
  unfolding power
  power_odd r a k hr ha h =
      let twice : suc (k / 2 + k / 2) ≡ k = omega arith in
      (arithmetic p v).mul_assoc r a (power p (mul p a a) (k / 2)) hr ha (power_below p v (k / 2) (mul_below p v ha ha))
      ∙ ap (mul p r) (ap (mul p a) (power_square a (k / 2) ha) ∙ ap (power p a) twice)

  -- after the last step
  pub power_end : (r a k : ℕ) → r < size_of p → k ≡ 0 → mul p r (power p a k) ≡ r
  unfolding power
  power_end r a k hr h = ap (λ (x : ℕ). mul p r (power p a x)) h ∙ (arithmetic p v).mul-one r hr
