-- Sums, differences, products and powers of symbols are symbols.
use mathlib.Core.Path.{◌≡◌}
use mathlib.Core.Bool.{true}
use Prim.Native.Nat.{ℕ, zero, suc, ◌<◌}
use Rattle.field.specs.Fields.{is_field, size_of, add, sub, mul, power}
use Rattle.field.proofs.BothKinds.{arithmetic}

module _ (p : ℕ) (v : is_field p ≡ true) where
  pub one_below : 1 < size_of p
  one_below = (arithmetic p v).one_below

  pub add_below : {a b : ℕ} → a < size_of p → b < size_of p → add p a b < size_of p
  add_below {a} {b} ha hb = (arithmetic p v).add_below a b ha hb

  pub sub_below : {a b : ℕ} → a < size_of p → b < size_of p → sub p a b < size_of p
  sub_below {a} {b} ha hb = (arithmetic p v).sub_below a b ha hb

  pub mul_below : {a b : ℕ} → a < size_of p → b < size_of p → mul p a b < size_of p
  mul_below {a} {b} ha hb = (arithmetic p v).mul_below a b ha hb

  pub power_below : {a : ℕ} (e : ℕ) → a < size_of p → power p a e < size_of p
  unfolding power
  power_below zero ha = one_below
  power_below (suc e) ha = mul_below ha (power_below e ha)
