-- `fill_lanes` meets its contract: one part more, until all lanes are written.
use Rattle.std.proofs.Common.{◌+◌, arith}
use Rattle.block_products.proofs.Writing.{done_start, done_end}
use Rattle.block_products.proofs.job.Job.fill_lanes.Goals as goal

pub loop-first-init : goal.loop-first-init
loop-first-init c =
    let j = c.args.self in λ ws begun. done_start j.m.way j.w.bytes j.m.outputs j.m.lanes _ c.args.out.now c.requires.out_long

pub returns : goal.returns
returns c =
    let j = c.args.self in λ ws begun. done_end j.m.way j.w.bytes j.m.outputs j.m.lanes c.loop-first.first _ _ c.loop-first-test.false (c.loop-first.invariant ws begun)

pub returns-2 : goal.returns-2
returns-2 c =
    let j = c.args.self in
    λ ws begun. done_end j.m.way j.w.bytes j.m.outputs j.m.lanes (c.loop-first.first + c.min.result) _ _ (omega arith) (c.fill_tile.ensures ws begun (c.loop-first.invariant ws begun))
