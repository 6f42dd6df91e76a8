-- `subtract_previous` meets its contract. Invariant: the places from y on are replaced (`Renewed`).
use Rattle.std.proofs.Common.{◌-◌, ◌≤◌}
use Rattle.weight_counts.proofs.Previous.{Renewed}
use Rattle.weight_counts.proofs.subtract_previous.Given as goal

abbrev pub invariant-loop-y : goal.invariant-loop-y
invariant-loop-y l = (l.first ≤ l.y) × Renewed ◌-◌ l.initial.counts l.counts l.y
