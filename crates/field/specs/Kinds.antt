-- The field types of the code, and which field each value stands for.
use Rattle.std.specs.Prelude.{Bool, true, ◌&&◌, ℕ, leb}
use Rattle.field.specs.declared.prime.PrimeField.{PrimeField}
use Rattle.field.specs.declared.gf256.Gf256.{Gf256}
use Rattle.field.specs.declared.Field.{Field}
use Rattle.field.specs.declared.Field.TheVariants.{Prime, Binary}
use Rattle.field.specs.Primes.{is_prime}

abbrev pub prime_of : ℕ → PrimeField
prime_of p = record { p = p }

abbrev pub gf256 : Gf256
gf256 = record {}

-- the prime, or 0 for the field of 256 elements
unfoldable pub modulus : Field → ℕ
modulus (Prime field) = field.p
modulus (Binary field) = 0

-- a prime whose products fit 32 bits, or the field of 256 elements
unfoldable pub usable : Field → Bool
usable (Prime field) = leb field.p 65521 && is_prime field.p
usable (Binary field) = true
