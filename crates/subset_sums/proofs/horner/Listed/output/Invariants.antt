-- `Listed::output` meets its contract. The loop's invariant: the first b digits are done.
use Rattle.std.proofs.Common.{◌≡◌, ◌/◌, length}
use Rattle.subset_sums.specs.Inner.Lists.{turns_of}
use Rattle.subset_sums.proofs.horner.Listed.output.Given as goal

abbrev pub invariant-loop-b : goal.invariant-loop-b
invariant-loop-b l = l.acc ≡ turns_of l.b (length l.self.list.now / 8) l.self.tab.now l.self.list.now l.self.counts.now
