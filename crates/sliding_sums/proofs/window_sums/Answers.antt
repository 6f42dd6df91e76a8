-- `window_sums` meets its contract: each arm calls the sums of its kind.
use mathlib.Core.Path.{◌≡◌}
use mathlib.Core.Bool.{true}
use mathlib.Core.List.{List}
use Prim.Native.Nat.{ℕ, ◌≤◌}
use Rattle.field.specs.declared.prime.PrimeField.{PrimeField}
use Rattle.field.specs.declared.gf256.Gf256.{Gf256}
use Rattle.field.specs.declared.Field.TheVariants.{Prime, Binary}
use Rattle.field.specs.Primes.{is_prime}
use Rattle.field.specs.Fields.{size_of}
use Rattle.field.specs.Kinds.{modulus, usable}
use Rattle.field.proofs.KindLaws.{usable_prime}
use Rattle.sliding_sums.specs.Inner.Windows.{Windows}
use Rattle.sliding_sums.proofs.window_sums.Goals as goal

module _ {ws row : List ℕ} {l : ℕ} where
  -- what is known over a prime field
  prime_windows : (f : PrimeField) → (usable (Prime f) ≡ true) × Windows (size_of (modulus (Prime f))) ws row l → (is_prime f.p ≡ true) × (f.p ≤ 65521) × Windows f.p ws row l
  unfolding modulus
  prime_windows f a = let u = usable_prime f a.0 in (u.1, u.0, rw u.2 at a.1)

  -- and over the field of 256 elements
  byte_windows : (g : Gf256) → (usable (Binary g) ≡ true) × Windows (size_of (modulus (Binary g))) ws row l → Windows 256 ws row l
  unfolding modulus size_of
  byte_windows g a = a.1

pub window_sums-requires : goal.window_sums-requires
window_sums-requires c = prime_windows _ (rw c.in-Prime.is at c.requires)

pub window_sums-requires-in-Binary : goal.window_sums-requires-in-Binary
window_sums-requires-in-Binary c = byte_windows _ (rw c.in-Binary.is at c.requires)

pub returns-in-Prime : goal.returns-in-Prime
unfolding modulus
returns-in-Prime c = rw c.in-Prime.is c.window_sums.ensures

pub returns-in-Binary : goal.returns-in-Binary
unfolding modulus
returns-in-Binary c = rw c.in-Binary.is c.window_sums-in-Binary.ensures
