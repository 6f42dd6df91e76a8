-- Which numbers name a field, and what the operations are where p is not 0: arithmetic modulo p.
use mathlib.Core.Path.{◌≡◌, refl}
use mathlib.Core.Bool.{true, or-true}
use Prim.Native.Nat.{ℕ, zero, suc, ◌+◌, ◌-◌, ◌*◌, ◌%◌, ◌<◌}
use native.Mathlib.Nat.{mod-lt}
use native.Mathlib.Omega.{arith}
use borrow.Author.Tests.{ne_eqb}
use lib.Dec.{eqb}
use Rattle.field.specs.Primes.{is_prime}
use Rattle.field.specs.Fields.{is_field, size_of, add, sub, mul}
use Rattle.field.proofs.Primes.{two≤prime}

module _ (p : ℕ) (pos : 0 < p) where
  pub size_modulo : size_of p ≡ p
  unfolding size_of
  size_modulo = rw (ne_eqb p 0 (λ z. omega arith))

  pub add_modulo : (a b : ℕ) → add p a b ≡ (a + b) % p
  unfolding add
  add_modulo a b = rw (ne_eqb p 0 (λ z. omega arith))

  pub sub_modulo : (a b : ℕ) → sub p a b ≡ (a + (p - b)) % p
  unfolding sub
  sub_modulo a b = rw (ne_eqb p 0 (λ z. omega arith))

  pub mul_modulo : (a b : ℕ) → mul p a b ≡ a * b % p
  unfolding mul
  mul_modulo a b = rw (ne_eqb p 0 (λ z. omega arith))

  -- differences and products of any numbers are below p
  pub sub_under : (a b : ℕ) → sub p a b < p
  sub_under a b = rw (sub_modulo a b) (mod-lt (a + (p - b)) pos)

  pub mul_under : (a b : ℕ) → mul p a b < p
  mul_under a b = rw (mul_modulo a b) (mod-lt (a * b) pos)

-- a prime names a field, and is its size
pub prime_field : (p : ℕ) → is_prime p ≡ true → is_field p ≡ true
unfolding is_field
prime_field p prime = rw prime (or-true (eqb p 0))

pub prime_size : (p : ℕ) → is_prime p ≡ true → size_of p ≡ p
prime_size p prime = size_modulo p (omega (arith, two≤prime p prime))

-- what names a field and is its size is a prime
pub field_prime : {p : ℕ} → is_field p ≡ true → size_of p ≡ p → is_prime p ≡ true
unfolding is_field size_of
field_prime {p = zero} v sized = absurd (omega arith)
field_prime {p = suc p} v sized = rw (ne_eqb (suc p) 0 (λ z. omega arith)) at v

-- 0 names the field of 256 elements
pub byte_field : is_field 0 ≡ true
unfolding is_field
byte_field = refl
