-- `gf256::multiply_x` meets its contract. The loop's invariant: the lanes below t are multiplied.
use Rattle.std.proofs.Common.{arith}
use Rattle.kernel.proofs.Filling.{changed_none, changed_lane, changed_all}
use Rattle.kernel.proofs.gf256.multiply_x.Goals as goal

pub loop-sum-init : goal.loop-sum-init
loop-sum-init c = changed_none _ _

pub loop-sum-preserved : goal.loop-sum-preserved
loop-sum-preserved c =
    let inv = c.loop-sum.invariant in
    rw c.times_x.ensures (changed_lane _ _ inv (omega arith))

pub returns : goal.returns
returns c = changed_all _ _ c.loop-sum.invariant (omega arith)
