-- `gf256::multiply_x_add_two` meets its contract. The loop's invariant: the lanes below t hold the sum.
use Rattle.std.proofs.Common.{arith}
use Rattle.kernel.proofs.Filling.{changed_none, changed_lane, changed_all}
use Rattle.kernel.proofs.gf256.multiply_x_add_two.Goals as goal

pub loop-t-init : goal.loop-t-init
loop-t-init c = changed_none _ _

pub loop-t-preserved : goal.loop-t-preserved
loop-t-preserved c =
    let inv = c.loop-t.invariant in
    rw c.times_x.ensures (changed_lane _ _ inv (omega arith))

pub returns : goal.returns
returns c = changed_all _ _ c.loop-t.invariant (omega arith)
