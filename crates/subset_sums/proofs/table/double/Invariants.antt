-- `double` meets its contract. The loop's invariant: v slices more are made.
use Rattle.std.proofs.Common.{◌+◌, ◌*◌}
use Rattle.lists.proofs.Parts.{Valued}
use Rattle.subset_sums.specs.Inner.Subsets.{group_byte}
use Rattle.subset_sums.proofs.table.double.Given as goal

abbrev pub invariant-loop-v : goal.invariant-loop-v
invariant-loop-v l = Valued (group_byte l.rows) 1024 l.initial.tab l.tab ((l.count + l.v) * 64)
