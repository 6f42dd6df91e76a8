-- What is known of a field type's value that is usable.
use mathlib.Core.Path.{◌≡◌}
use mathlib.Core.Bool.{true}
use Prim.Native.Nat.{ℕ, ◌≤◌, ◌<◌}
use native.Mathlib.Omega.{arith}
use borrow.Author.Tests.{leb-true}
use lib.Dec.{leb}
use Rattle.std.proofs.lemmas.Bool.{and_parts}
use Rattle.field.specs.declared.prime.PrimeField.{PrimeField}
use Rattle.field.specs.declared.Field.{Field}
use Rattle.field.specs.declared.Field.TheVariants.{Prime, Binary}
use Rattle.field.specs.Primes.{is_prime}
use Rattle.field.specs.Fields.{is_field, size_of, add, sub, mul, power, inverse}
use Rattle.field.specs.Kinds.{modulus, usable}
use Rattle.field.proofs.Meanings.{prime_field, prime_size, byte_field}
use Rattle.field.proofs.Bounds.{add_below, sub_below, mul_below, power_below}
use Rattle.field.proofs.Inverse.{inverse_below}

-- a usable prime field: its prime, in 16 bits
pub usable_prime : (f : PrimeField) → usable (Prime f) ≡ true → (f.p ≤ 65521) × (is_prime f.p ≡ true) × (size_of f.p ≡ f.p)
unfolding usable
usable_prime f h =
    let prime = (and_parts (leb f.p 65521) (is_prime f.p) h).1 in
    (leb-true f.p 65521 (and_parts (leb f.p 65521) (is_prime f.p) h).0, prime, prime_size f.p prime)

-- what its arithmetic asks
pub prime_fits : (f : PrimeField) → usable (Prime f) ≡ true → (size_of f.p ≡ f.p) × (f.p ≤ 65521)
prime_fits f h = let u = usable_prime f h in (u.2, u.0)

pub prime_names : (f : PrimeField) → usable (Prime f) ≡ true → is_field f.p ≡ true
prime_names f h = prime_field f.p (usable_prime f h).1

-- a usable value names a field
pub usable_field : (f : Field) → usable f ≡ true → is_field (modulus f) ≡ true
unfolding usable modulus
usable_field (Prime f) h = prime_names f h
usable_field (Binary g) h = byte_field

-- whose symbols fit 16 bits
pub size_fits : (f : Field) → usable f ≡ true → size_of (modulus f) ≤ 65521
unfolding usable modulus size_of
size_fits (Prime f) h = let u = usable_prime f h in rw u.2 u.0
size_fits (Binary g) h = omega arith

-- what its operations give are symbols
module _ (f : Field) (u : usable f ≡ true) where
  pub add_symbol : {a b : ℕ} → a < size_of (modulus f) → b < size_of (modulus f) → add (modulus f) a b < size_of (modulus f)
  add_symbol = add_below (modulus f) (usable_field f u)

  pub sub_symbol : {a b : ℕ} → a < size_of (modulus f) → b < size_of (modulus f) → sub (modulus f) a b < size_of (modulus f)
  sub_symbol = sub_below (modulus f) (usable_field f u)

  pub mul_symbol : {a b : ℕ} → a < size_of (modulus f) → b < size_of (modulus f) → mul (modulus f) a b < size_of (modulus f)
  mul_symbol = mul_below (modulus f) (usable_field f u)

  pub power_symbol : {a : ℕ} (e : ℕ) → a < size_of (modulus f) → power (modulus f) a e < size_of (modulus f)
  power_symbol = power_below (modulus f) (usable_field f u)

  pub inverse_symbol : {a : ℕ} → a < size_of (modulus f) → inverse (modulus f) a < size_of (modulus f)
  inverse_symbol = inverse_below (modulus f) (usable_field f u)
