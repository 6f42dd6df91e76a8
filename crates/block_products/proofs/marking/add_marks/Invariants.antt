-- `add_marks` meets its contract. The loop's invariant: the lanes below t have their new marks.
use Rattle.std.proofs.Common.{eqb, get_or}
use Rattle.lists.specs.Choice.{pick}
use Rattle.kernel.proofs.Filling.{Changed}
use Rattle.block_products.proofs.marking.add_marks.Given as goal

abbrev pub invariant-loop-t : goal.invariant-loop-t
invariant-loop-t l = Changed (λ t y. pick (eqb (get_or l.sums t 0) 0) y 1) l.initial.marks l.marks l.t
