-- `scaled` meets its contract. Invariant: the first x coefficients are written.
use Rattle.lists.proofs.Fill.{filled_put}
use Rattle.decode.proofs.locator.Registers.scaled.Goals as goal

pub loop-x-preserved : goal.loop-x-preserved
loop-x-preserved c = filled_put c.loop-x.invariant c.loop-x-test.true c.mul.ensures.is
