-- The order of a symbol of a prime field is at most the prime.
use mathlib.Core.Path.{◌≡◌}
use mathlib.Core.Bool.{true}
use Prim.Native.Nat.{ℕ, ◌≤◌, ◌<◌}
use native.Mathlib.Omega.{arith}
use Rattle.field.specs.Primes.{is_prime}
use Rattle.field.specs.Fields.{order_of}
use Rattle.field.proofs.Meanings.{prime_field, prime_size}
use Rattle.generator.proofs.OrderBound.{found_below}

pub order_fits : (p root : ℕ) → is_prime p ≡ true → root < p → order_of p root ≤ p
order_fits p root prime below = omega (arith, prime_size p prime, found_below p root (prime_field p prime) (rw (prime_size p prime) below))
