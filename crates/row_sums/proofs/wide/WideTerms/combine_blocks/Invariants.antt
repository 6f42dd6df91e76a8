-- `combine_blocks` meets its contract. The loop's invariant: the lanes that are done are written.
use Prim.Native.Nat.{◌-◌}
use Rattle.row_sums.specs.Inner.Terms.{wide_sum_at}
use Rattle.row_sums.proofs.Pairs.{Written}
use Rattle.row_sums.proofs.wide.WideTerms.combine_blocks.Given as goal

abbrev pub invariant-loop-done : goal.invariant-loop-done
invariant-loop-done l = Written l.lanes (wide_sum_at l.self) l.done l.acc

abbrev pub decreases-loop-done : goal.decreases-loop-done
decreases-loop-done l = l.lanes - l.done
