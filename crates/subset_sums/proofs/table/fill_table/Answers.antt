-- `fill_table` meets its contract. The loop's invariant: the sums of the groups below g are made.
use Rattle.std.proofs.Common.{◌*◌, ◌/◌, ◌<◌, length, arith}
use native.Mathlib.Nat.{add-sub_cancel_left}
use Rattle.lists.proofs.Rows.{row_after}
use Rattle.lists.proofs.Parts.{valued_part, valued_all}
use Rattle.kernel.proofs.Chunks.{chunk_element}
use Rattle.subset_sums.specs.Inner.Subsets.{table_byte, table_of, group_of}
use Rattle.subset_sums.proofs.Subsets.{length_group, table_group}
use Rattle.subset_sums.proofs.table.fill_table.Goals as goal

pub loop-g-preserved : goal.loop-g-preserved
loop-g-preserved c =
    let l = c.loop-g in
    let rows = c.args.rows.now in
    let inside : l.g < length rows / 256 = omega (arith, c.as_chunks.ensures.front_len) in
    rw (row_after, c.fill_group.ensures)
    (valued_part (table_byte rows) (length rows / 256 * 1024) (group_of _) 1024 _ l.invariant (omega arith) (omega arith) (add-sub_cancel_left (l.g * 1024) 1024) (length_group _)
    (λ p h. table_group rows _ l.g p h (λ j low. rw c.as_chunks.ensures.front (chunk_element 256 _ l.g j rows inside low))))

pub returns : goal.returns
unfolding table_of
returns c = valued_all _ _ c.loop-g.invariant (omega arith) (omega arith)
