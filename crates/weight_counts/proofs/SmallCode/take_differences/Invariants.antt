-- `SmallCode::take_differences` meets its contract. Invariant: w turns are done.
use Rattle.std.proofs.Common.{◌≡◌}
use Rattle.weight_counts.proofs.Table.{turns_of}
use Rattle.weight_counts.proofs.SmallCode.take_differences.Given as goal

abbrev pub invariant-loop-w : goal.invariant-loop-w
invariant-loop-w l = l.counts ≡ turns_of l.w l.initial.counts
