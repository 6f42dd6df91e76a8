-- `order` meets its contract. Invariant: the order is at most n.
use Prim.Native.Nat.{◌≤◌}
use Rattle.field.specs.Fields.{order_of}
use Rattle.small_plans_text.proofs.SmallPrime.order.Given as goal

abbrev pub invariant-loop-n : goal.invariant-loop-n
invariant-loop-n l = order_of l.fn.self.p l.fn.root ≤ l.n
