-- `part` meets its contract: the lanes lie within the lanes.
use Rattle.std.proofs.Common.{◌∙◌, mul_comm}
use Rattle.layout.proofs.Runs.{lanes_inside}
use Rattle.tiles.proofs.lanes.Lanes.part.Goals as goal

pub slice_bounds-result-end : goal.slice_bounds-result-end
slice_bounds-result-end c =
    let s = c.args.self in
    lanes_inside s.rows s.count s.bytes.now (s.whole ∙ mul_comm s.count s.rows) c.args.first c.args.count c.requires
