-- The first powers of a symbol as products, and the step from a power to the fourth after it.
use mathlib.Core.Path.{◌≡◌, sym, ap, ap₂, ◌∙◌}
use mathlib.Core.Bool.{true}
use Prim.Native.Nat.{ℕ, ◌+◌, ◌<◌}
use native.Mathlib.Omega.{arith}
use Rattle.field.specs.Fields.{is_field, size_of, mul, power}
use Rattle.field.proofs.BothKinds.{arithmetic}
use Rattle.field.proofs.Powers.{power_next, power_add}

module _ (p : ℕ) (v : is_field p ≡ true) (a : ℕ) (low : a < size_of p) where
  pub power_one : power p a 1 ≡ a
  unfolding power
  power_one = power_next p a 0 ∙ (arithmetic p v).mul-one a low

  pub power_two : power p a 2 ≡ mul p a a
  power_two = power_next p a 1 ∙ ap (mul p a) power_one

  pub power_three : power p a 3 ≡ mul p a (mul p a a)
  power_three = power_next p a 2 ∙ ap (mul p a) power_two

  pub power_four : power p a 4 ≡ mul p (mul p a a) (mul p a a)
  power_four = sym (power_add p v a 2 2 low) ∙ ap₂ (mul p) power_two power_two

  pub fourth_after : (i : ℕ) → mul p (power p a 4) (power p a i) ≡ power p a (i + 1 + 3)
  fourth_after i = let e : 4 + i ≡ i + 1 + 3 = omega arith in power_add p v a 4 i low ∙ ap (power p a) e
