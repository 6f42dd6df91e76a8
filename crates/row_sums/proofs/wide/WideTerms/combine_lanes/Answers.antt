-- `combine_lanes` meets its contract. The loop's invariant: the lanes below t are written.
use native.Mathlib.Omega.{arith}
use Rattle.row_sums.specs.Inner.Combined.{combined}
use Rattle.row_sums.specs.Inner.WideSums.{wide_sum}
use Rattle.row_sums.proofs.Pairs.{written_one, written_all}
use Rattle.row_sums.proofs.wide.WideTerms.combine_lanes.Goals as goal

pub loop-t-preserved : goal.loop-t-preserved
loop-t-preserved c =
    let l = c.loop-t in
    let sum = c.lane_sum-sum in
    rw c.put.ensures (written_one _ _ l.t sum.result l.acc (omega arith) sum.ensures l.invariant)

pub returns : goal.returns
unfolding combined wide_sum
returns c = written_all _ _ c.loop-t.t c.loop-t.acc (omega arith) c.loop-t.invariant
