-- `add_product` meets its contract: each lane in its turn.
use Rattle.std.proofs.Common.{arith}
use Rattle.kernel.specs.Inner.Halves.{wrapped}
use Rattle.kernel.proofs.Filling.{changed_none, changed_lane, changed_all}
use Rattle.tile_products.proofs.prime.add_product.Goals as goal

pub loop-t-init : goal.loop-t-init
loop-t-init c = (changed_none _ _, changed_none _ _)

pub loop-t-preserved : goal.loop-t-preserved
loop-t-preserved c =
    let inv = c.loop-t.invariant in
    let sums = c.args.sums.now in (
      rw c.add.ensures.rest (changed_lane _ _ inv.0 (omega (arith, sums.rest_lanes.long))),
      rw c.add.ensures.upper (changed_lane _ _ inv.1 (omega (arith, sums.upper_lanes.long))),
    )

pub returns : goal.returns
unfolding wrapped
returns c =
    let inv = c.loop-t.invariant in
    let sums = c.args.sums.now in
    record { rest = changed_all _ _ inv.0 (omega (arith, sums.rest_lanes.long)); upper = changed_all _ _ inv.1 (omega (arith, sums.upper_lanes.long)) }
