-- `sum` meets its contract. The loop's invariant: the symbols below i whose weight has the digit are added.
use native.Mathlib.Omega.{arith}
use Rattle.row_sums.proofs.OneLane.{summed_none, summed_row, summed_all}
use Rattle.row_sums.proofs.gf256.Digit.sum.Goals as goal

pub loop-i-init : goal.loop-i-init
loop-i-init c = summed_none _ _ _ _

pub loop-i-preserved : goal.loop-i-preserved
loop-i-preserved c =
    let l = c.loop-i in
    rw c.of.ensures.value (summed_row _ _ _ _ l.sum l.i (omega arith) l.invariant)

pub returns : goal.returns
returns c = let l = c.loop-i in summed_all _ _ _ _ l.sum l.i (omega arith) l.invariant
