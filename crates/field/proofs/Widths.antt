-- A symbol has one byte or two, and fits them.
use mathlib.Core.Path.{◌≡◌}
use mathlib.Core.Bool.{true}
use Prim.Native.Nat.{ℕ, ◌^◌, ◌≤◌, ◌<◌}
use native.Mathlib.Omega.{arith}
use borrow.Author.Tests.{le-leb, lt-leb, leb-true}
use lib.Dec.{leb}
use Rattle.lists.proofs.Cases.{by_test}
use Rattle.field.specs.declared.Field.{Field}
use Rattle.field.specs.Fields.{size_of}
use Rattle.field.specs.Kinds.{modulus, usable}
use Rattle.field.specs.Widths.{bytes_for}
use Rattle.field.proofs.KindLaws.{size_fits}

-- one byte, or two
pub one_byte : (p : ℕ) → size_of p ≤ 256 → bytes_for p ≡ 1
unfolding bytes_for
one_byte p few = rw (le-leb (size_of p) 256 few)

pub two_bytes : (p : ℕ) → 256 < size_of p → bytes_for p ≡ 2
unfolding bytes_for
two_bytes p many = rw (lt-leb (size_of p) 256 many)

pub bytes_range : (p : ℕ) → (1 ≤ bytes_for p) × (bytes_for p ≤ 2)
unfolding bytes_for
bytes_range p = by_test (leb (size_of p) 256) (λ t. rw t (omega arith, omega arith)) (λ t. rw t (omega arith, omega arith))

-- a symbol fits its bytes
pub size_fits_bytes : (f : Field) → usable f ≡ true → size_of (modulus f) ≤ 256 ^ bytes_for (modulus f)
unfolding bytes_for
size_fits_bytes f u =
    by_test (leb (size_of (modulus f)) 256)
    (λ t. rw t (leb-true (size_of (modulus f)) 256 t))
    (λ t. rw t (omega (arith, size_fits f u)))
