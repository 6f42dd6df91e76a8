-- `pascal_row` meets its contract. Invariant: the row is row a.
use Rattle.std.proofs.Common.{◌∙◌}
use Rattle.lists.specs.Padded.{zeros}
use Rattle.weight_counts.proofs.Table.{row_start, row_next}
use Rattle.weight_counts.proofs.pascal_row.Goals as goal

pub loop-init : goal.loop-init
unfolding zeros
loop-init c = row_start

pub loop-preserved : goal.loop-preserved
loop-preserved c = c.add_previous.ensures ∙ rw c.loop.invariant (row_next _)
