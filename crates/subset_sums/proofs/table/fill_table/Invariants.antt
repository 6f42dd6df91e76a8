-- `fill_table` meets its contract. The loop's invariant: the sums of the groups below g are made.
use Rattle.std.proofs.Common.{◌*◌, ◌/◌, length}
use Rattle.lists.proofs.Parts.{Valued}
use Rattle.subset_sums.specs.Inner.Subsets.{table_byte}
use Rattle.subset_sums.proofs.table.fill_table.Given as goal

abbrev pub invariant-loop-g : goal.invariant-loop-g
invariant-loop-g l = Valued (table_byte l.rows) (length l.rows / 256 * 1024) l.initial.tab l.tab (l.g * 1024)
