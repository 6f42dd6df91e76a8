-- `FieldKind::power` meets its contract. The loop's invariant: r·base^k is a^e.
use mathlib.Core.Path.{◌≡◌}
use Prim.Native.Nat.{◌<◌}
use Rattle.field.specs.Fields.{size_of, mul, power}
use Rattle.field.proofs.kind.FieldKind.power.Given as goal

abbrev pub invariant-loop-k : goal.invariant-loop-k
invariant-loop-k g l =
    let p = g.Self.FieldKind.modulus l.self in
    (l.base < size_of p) × (l.r < size_of p) × (mul p l.r (power p l.base l.k) ≡ power p l.a l.e)

abbrev pub decreases-loop-k : goal.decreases-loop-k
decreases-loop-k g l = l.k
