-- `load_lanes` meets its contract: the part of the lanes is gathered.
use Rattle.std.proofs.Common.{◌+◌, ◌*◌, ◌≤◌, length, ap, ◌∙◌, arith}
use Rattle.layout.specs.Width.{symbols_of}
use Rattle.layout.proofs.Runs.{lanes_inside}
use Rattle.block_products.proofs.Lanes.{lane_of_part, lane_read}
use Rattle.block_products.proofs.job.Part.load_lanes.Goals as goal
use Rattle.block_products.proofs.job.Part.load_lanes.Goals.{Start}

-- the lanes lie within the source
source_in : (c : Start) → let p = c.args.self in let lane = p.job.w.bytes * p.job.m.rows in p.first * lane + p.count * lane ≤ length p.job.source.now
source_in c = let p = c.args.self in let j = p.job in lanes_inside (j.w.bytes * j.m.rows) j.m.lanes j.source.now j.source_long p.first p.count p.inside

pub slice_bounds-gather64-end : goal.slice_bounds-gather64-end
slice_bounds-gather64-end c = source_in (goal.at.slice_bounds-gather64-end c).Start

pub returns : goal.returns
returns c =
    let p = c.args.self in
    let j = p.job in
    λ t lane.
    ap (symbols_of j.w.bytes) (c.gather64.ensures.1 t lane ∙ lane_of_part (j.w.bytes * j.m.rows) j.m.lanes j.source.now j.source_long p.first p.count t lane) ∙ lane_read j.w.bytes j.m.rows j.m.lanes j.source.now j.w.some j.source_long (p.first + t) (omega arith)
