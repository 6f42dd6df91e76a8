-- `coefficients` meets its contract.
use Rattle.lists.proofs.Fill.{filled_put}
use Rattle.lane_message.proofs.sums.coefficients.Goals as goal

pub loop-c-preserved : goal.loop-c-preserved
loop-c-preserved c = filled_put c.loop-c.invariant c.loop-c-test.true (rw c.negative.ensures.0)
