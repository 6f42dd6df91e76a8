-- What is stored over either kind of field.
use mathlib.Core.Path.{◌≡◌, refl}
use mathlib.Core.Bool.{true}
use Prim.Native.Nat.{◌+◌, ◌*◌, ◌<◌}
use native.Mathlib.Omega.{arith}
use borrow.Author.Tests.{ne_eqb, leb-true}
use lib.Dec.{leb}
use Rattle.std.proofs.lemmas.Bool.{and_parts}
use Rattle.field.specs.Primes.{is_prime}
use Rattle.field.specs.declared.gf256.Gf256.{Gf256}
use Rattle.field.specs.declared.prime.PrimeField.{PrimeField}
use Rattle.field.specs.declared.Field.TheVariants.{Prime, Binary}
use Rattle.field.specs.Kinds.{modulus, usable}
use Rattle.field.proofs.KindLaws.{usable_prime}
use Rattle.generator.specs.declared.Header.{Header}
use Rattle.carrying.specs.Carrying.{group_words}
use Rattle.record_text.specs.Records.{stored_bytes, image_bytes}

pub binary_storage : (h : Header) (g : Gf256) → h.field ≡ Binary g → (h.n ≡ stored_bytes h) × (h.k ≡ image_bytes h)
unfolding stored_bytes image_bytes modulus
binary_storage h g is = (rw is refl, rw is refl)

-- the prime of a usable field is a word
pub prime_word : (f : PrimeField) → usable (Prime f) ≡ true → f.p < 65536
prime_word f good = omega (arith, (usable_prime f good).0)

pub prime_storage : (h : Header) (f : PrimeField) → h.field ≡ Prime f → usable (Prime f) ≡ true → (h.n * (group_words f.p + 1) ≡ stored_bytes h) × (h.k * group_words f.p ≡ image_bytes h)
unfolding stored_bytes image_bytes modulus is_prime
prime_storage h f is good =
    let least = leb-true 2 f.p (and_parts (leb 2 f.p) _ (usable_prime f good).1).0 in
    let some = ne_eqb f.p 0 (λ none. omega arith) in
    (rw (is, some) refl, rw (is, some) refl)
