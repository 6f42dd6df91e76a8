-- `fill_lane` meets its contract. Invariant: the first i symbols of the lane are written.
use Rattle.std.proofs.Common.{sym, ◌∙◌, length, ext_get_or, arith}
use Rattle.layout.specs.Layout.{row_after_row}
use Rattle.layout.proofs.Buffers.{length_lane, get_or_lane}
use Rattle.layout.proofs.Places.{held_by_row}
use Rattle.tiles.proofs.columns.fill_lane.Goals as goal

pub returns : goal.returns
returns c =
    let a = c.args in
    let n = length a.lane.now in
    let size = length_lane row_after_row n a.width a.t a.table.now in
    ext_get_or 0 c.loop-i.lane _ (omega (arith, size))
    (λ k h. c.loop-i.invariant k (omega arith) ∙ sym (get_or_lane row_after_row n a.width a.t a.table.now k (omega arith) ∙ held_by_row n a.width a.table.now k a.t))
