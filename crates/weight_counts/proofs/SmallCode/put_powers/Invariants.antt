-- `SmallCode::put_powers` meets its contract. Invariant: the powers below y are written, and x is the next.
use Rattle.std.proofs.Common.{◌≡◌, ◌-◌, ◌^◌, length}
use Rattle.lists.specs.Rows.{from}
use Rattle.lists.proofs.Fill.{Fills}
use Rattle.weight_counts.proofs.SmallCode.put_powers.Given as goal

abbrev pub invariant-loop-y : goal.invariant-loop-y
invariant-loop-y l = (l.x ≡ l.q ^ (l.y - l.fixed)) × Fills l.initial.counts l.counts l.y (from (λ y. l.q ^ (y - l.fixed)) l.y (length l.initial.counts - l.y)) (from (λ y. l.q ^ (y - l.fixed)) 0 (length l.initial.counts))
