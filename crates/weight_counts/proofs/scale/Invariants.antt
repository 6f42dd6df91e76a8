-- `scale` meets its contract. Invariant: the places below w are multiplied, and the others are to come.
use Rattle.std.proofs.Common.{◌-◌, ◌*◌, length, get_or}
use Rattle.lists.specs.Rows.{from}
use Rattle.lists.proofs.Fill.{Fills}
use Rattle.weight_counts.proofs.scale.Given as goal

abbrev pub invariant-loop-w : goal.invariant-loop-w
invariant-loop-w l =
    Fills l.initial.counts l.counts l.w (from (λ w. get_or l.initial.counts w 0 * get_or l.factors w 0) l.w (length l.initial.counts - l.w)) (from (λ w. get_or l.initial.counts w 0 * get_or l.factors w 0) 0 (length l.initial.counts))
