-- `store_lanes` meets its contract: the lanes are scattered to their part.
use Rattle.std.proofs.Common.{◌*◌, ◌≤◌, take, ◌∙◌, arith}
use native.Mathlib.Nat.{add-sub_cancel_left}
use Rattle.layout.proofs.Runs.{lanes_inside}
use Rattle.tile_products.proofs.Lanes.{lane_prefix}
use Rattle.block_products.specs.Inner.Ways.{Sums}
use Rattle.block_products.proofs.Writing.{lanes_step}
use Rattle.block_products.proofs.job.Part.store_lanes.Goals as goal

pub slice_bounds-scatter64-end-4 : goal.slice_bounds-scatter64-end-4
slice_bounds-scatter64-end-4 c = let p = c.args.self in let j = p.job in lanes_inside (j.w.bytes * j.m.outputs) j.m.lanes c.args.out.now c.requires.out_long p.first p.count p.inside

pub returns : goal.returns
returns c =
    λ f sums base.
    let p = c.args.self in
    let j = p.job in
    let n = j.w.bytes * j.m.outputs in
    let size = c.div_ceil-size.result * 1024 in
    let whole : n * 64 ≤ size = omega (arith, c.div_ceil-size.ensures) in
    let words = c.args.words.now in
    let prefix : Sums j.w.bytes j.m.outputs p.first p.count f (take size words) = λ q lane. lane_prefix n size q words whole (omega arith) ∙ sums q lane in
    rw (c.scatter64.ensures, add-sub_cancel_left (p.first * n) (p.count * n)) (lanes_step j.w.bytes j.m.outputs j.m.lanes p.first p.count f (take size words) prefix p.inside base)
