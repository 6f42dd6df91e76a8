-- `has_order` of bytes meets its contract. The loop's invariant: 2 to the exponent s is the power at which the search stands.
use mathlib.Core.Path.{◌≡◌}
use Prim.Native.Nat.{◌<◌}
use Rattle.field.specs.Fields.{power}
use Rattle.field.proofs.Orders.{Searched}
use Rattle.field.proofs.gf256.Gf256FieldKind.has_order.Given as goal

abbrev pub invariant-loop : goal.invariant-loop
invariant-loop l = Searched 0 l.a l.n l.counter (power 0 2 l.s) × (l.s < 255) × (l.step < 255) × (power 0 2 l.step ≡ l.a)
