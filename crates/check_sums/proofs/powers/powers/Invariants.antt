-- `powers` meets its contract. Invariant: x to x3 are the powers of the root from place-index on, and the powers below it are written.
use mathlib.Core.Path.{◌≡◌}
use Prim.Native.Nat.{◌+◌}
use Rattle.lists.proofs.Fill.{Filled}
use Rattle.field.specs.Fields.{power}
use Rattle.field.specs.Kinds.{modulus}
use Rattle.check_sums.proofs.powers.powers.Given as goal

abbrev pub invariant-loop-place : goal.invariant-loop-place
invariant-loop-place l =
    (l.x ≡ power (modulus l.field.field) l.root l.place-index)
    × (l.x1 ≡ power (modulus l.field.field) l.root (l.place-index + 1))
    × (l.x2 ≡ power (modulus l.field.field) l.root (l.place-index + 2))
    × (l.x3 ≡ power (modulus l.field.field) l.root (l.place-index + 3))
    × Filled l.n l.n (power (modulus l.field.field) l.root) l.place-index l.place-items
