-- `Weights::list_group` meets its contract. The loop's invariant: the digits before b are a group further.
use Rattle.std.proofs.Common.{◌/◌, length}
use Rattle.subset_sums.specs.Inner.Spread.{Streams}
use Rattle.subset_sums.proofs.Spreading.{ahead}
use Rattle.subset_sums.proofs.slices.Weights.list_group.Given as goal

abbrev pub invariant-loop-b : goal.invariant-loop-b
invariant-loop-b l = Streams (length l.initial.list / 8) (ahead l.g l.b) l.fn.self.weights.now l.list l.counts
