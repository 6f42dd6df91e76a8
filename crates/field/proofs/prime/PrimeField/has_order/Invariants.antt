-- `has_order` of a prime field meets its contract. The loop's invariant: x is the power at which the search stands.
use Prim.Native.Nat.{◌<◌}
use Rattle.field.proofs.Orders.{Searched}
use Rattle.field.proofs.prime.PrimeField.has_order.Given as goal

abbrev pub invariant-loop : goal.invariant-loop
invariant-loop l = Searched l.self.p l.a l.n l.counter l.x × (l.x < l.self.p)
