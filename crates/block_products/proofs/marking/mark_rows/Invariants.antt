-- `mark_rows` meets its contract. The loop's invariant: the marks by the rows that are gone.
use mathlib.Core.Path.{◌≡◌}
use lib.ListN.{length}
use Rattle.std.specs.Slice.Iter.{chunks_rest, chunks_size}
use Rattle.block_products.proofs.MarkedRows.{Marking}
use Rattle.block_products.proofs.marking.mark_rows.Given as goal

abbrev pub invariant-loop-row : goal.invariant-loop-row
invariant-loop-row l =
    goal.iterator-loop-row.can_next l.row-iterator
    × goal.iterator-loop-row.is_finite l.row-iterator
    × (chunks_size l.row-iterator ≡ 64)
    × Marking l.rows (length l.fn.marks) l.words (chunks_rest l.row-iterator) l.marks
