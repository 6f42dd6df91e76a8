-- `fill_group` meets its contract. The loop's invariant: the sums of the rows below i are made.
use Rattle.std.proofs.Common.{◌^◌}
use Rattle.subset_sums.specs.Inner.Subsets.{FirstSums}
use Rattle.subset_sums.proofs.table.fill_group.Given as goal

abbrev pub invariant-loop-i : goal.invariant-loop-i
invariant-loop-i l = FirstSums l.rows (2 ^ l.i) l.tab
