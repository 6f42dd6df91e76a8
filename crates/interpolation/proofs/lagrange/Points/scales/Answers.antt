-- `scales` meets its contract. Invariant: the first i scales are written.
use Rattle.lists.proofs.Fill.{filled_put}
use Rattle.interpolation.proofs.lagrange.Points.scales.Goals as goal

pub loop-i-preserved : goal.loop-i-preserved
loop-i-preserved c = filled_put c.loop-i.invariant c.loop-i-test.true c.scale_at.ensures.is
