-- `put_rows` meets its contract. The loop's invariant: the rows below r have their lanes.
use Rattle.std.proofs.Common.{◌+◌, ◌*◌, ◌-◌, take, drop, arith}
use native.Mathlib.Nat.{add-sub_cancel_left}
use Rattle.lists.proofs.Rows.{part_length, get_d_part}
use Rattle.tiles.proofs.Beside.{beside_row}
use Rattle.tiles.proofs.many_lanes.put_rows.Goals as goal

pub loop-r-preserved : goal.loop-r-preserved
loop-r-preserved c =
    let a = c.args in
    let l = c.loop-r in
    let from = l.r * 64 in
    let lanes = take (from + a.count - from) (drop from a.block.now) in
    rw c.move_row.ensures (beside_row a.rows a.width a.first a.count l.r a.block.now a.tile.now l.tile lanes c.requires.2 c.requires.1 c.loop-r-test.true (part_length from a.count a.block.now (omega arith)) (get_d_part from a.count a.block.now) l.invariant _ (add-sub_cancel_left (l.r * a.width + a.first) a.count))
