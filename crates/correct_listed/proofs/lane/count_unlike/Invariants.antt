-- `count_unlike` meets its contract. Invariant: the places below i are counted, and the others are to come.
use Rattle.std.proofs.Common.{◌+◌, ◌-◌, length, get_or, eqb, not}
use Rattle.lists.specs.Choice.{when}
use Rattle.lists.specs.Rows.{from}
use Rattle.lists.proofs.Fill.{Fills}
use Rattle.correct_listed.specs.Inner.Lanes.{unlike_added}
use Rattle.correct_listed.proofs.lane.count_unlike.Given as goal

abbrev pub invariant-loop-i : goal.invariant-loop-i
invariant-loop-i l =
    Fills l.initial.counts l.counts l.i (from (λ i. get_or l.initial.counts i 0 + when (not (eqb (get_or l.held i 0) (get_or l.right i 0))) 1) l.i (length l.initial.counts - l.i)) (unlike_added l.held l.right l.initial.counts)
