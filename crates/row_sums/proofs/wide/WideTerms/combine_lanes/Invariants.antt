-- `combine_lanes` meets its contract. The loop's invariant: the lanes below t are written.
use Rattle.row_sums.specs.Inner.Terms.{wide_sum_at}
use Rattle.row_sums.proofs.Pairs.{Written}
use Rattle.row_sums.proofs.wide.WideTerms.combine_lanes.Given as goal

abbrev pub invariant-loop-t : goal.invariant-loop-t
invariant-loop-t l = Written l.lanes (wide_sum_at l.self) l.t l.acc
