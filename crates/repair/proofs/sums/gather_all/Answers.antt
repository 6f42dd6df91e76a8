-- `sums::gather_all` meets its contract.
use native.Mathlib.Omega.{arith}
use Rattle.kernel.proofs.Filling.{changed_lane}
use Rattle.repair.proofs.sums.gather_all.Goals as goal

pub loop-i-preserved : goal.loop-i-preserved
loop-i-preserved c = rw c.gather.ensures (changed_lane _ _ c.loop-i.invariant (omega arith))
