-- `prime::add_scaled` meets its contract: nothing is added for the coefficient 0. The loop's invariant: the lanes below t hold the sum.
use Rattle.std.proofs.Common.{get_or}
use Rattle.field.specs.Fields.{add, mul}
use Rattle.kernel.proofs.Filling.{Changed}
use Rattle.kernel.proofs.prime.add_scaled.Given as goal

abbrev pub invariant-loop-t : goal.invariant-loop-t
invariant-loop-t l = Changed (λ t y. add l.fn.p (mul l.fn.p (get_or l.row t 0) l.fn.c) y) l.initial.acc l.acc l.t
