-- `place_slices` meets its contract. The loop's invariant: the slices before the index are moved.
use native.Mathlib.Omega.{arith}
use Rattle.kernel.proofs.Filling.{changed_none, changed_lane, changed_all}
use Rattle.sliding_sums.proofs.bytes.place_slices.Goals as goal

pub loop-slice-init : goal.loop-slice-init
loop-slice-init c = changed_none _ _

pub loop-slice-preserved : goal.loop-slice-preserved
loop-slice-preserved c = rw c.place.ensures (changed_lane _ _ c.loop-slice.invariant (omega arith))

pub returns : goal.returns
returns c = changed_all _ _ c.loop-slice.invariant (omega arith)
