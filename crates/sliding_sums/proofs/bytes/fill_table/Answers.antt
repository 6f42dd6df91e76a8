-- `fill_table` meets its contract. The loop's invariant: the subsets below v have their places.
use Prim.Native.Nat.{◌*◌}
use native.Mathlib.Omega.{arith}
use Rattle.lists.specs.Rows.{from}
use Rattle.lists.proofs.Parts.{valued_part, valued_all}
use native.Mathlib.Nat.{add-sub_cancel_left}
use Rattle.lists.proofs.Rows.{row_after, part_length, length_from}
use Rattle.sliding_sums.specs.Inner.Tables.{sliding_subset, sliding_byte, sliding_table}
use Rattle.sliding_sums.proofs.Tables.{table_part}
use Rattle.sliding_sums.proofs.bytes.fill_table.Goals as goal

pub loop-v-preserved : goal.loop-v-preserved
loop-v-preserved c =
    let row = c.args.row.now in
    let l = c.loop-v in
    rw (row_after, c.fill_subset.ensures, part_length (l.v * 512) 512 l.tab (omega (arith, l.invariant.long)))
    (valued_part (sliding_byte row) 8192 (from (sliding_subset row l.v) 0 512) 512 _ l.invariant (omega arith) (omega arith) (add-sub_cancel_left (l.v * 512) 512) (length_from _ 0 512) (λ p h. table_part row l.v p h))

pub returns : goal.returns
unfolding sliding_table
returns c = valued_all _ _ c.loop-v.invariant (omega arith) (omega arith)
