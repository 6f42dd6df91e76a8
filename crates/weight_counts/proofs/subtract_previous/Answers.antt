-- `subtract_previous` meets its contract. Invariant: the places from y on are replaced (`Renewed`).
use Rattle.std.proofs.Common.{◌≡◌, ◌-◌, arith}
use Rattle.weight_counts.proofs.Previous.{renewed_end}
use Rattle.weight_counts.proofs.subtract_previous.Goals as goal

pub returns : goal.returns
returns c =
    let l = c.loop-y in
    let end : l.y ≡ c.args.first = omega arith in
    renewed_end ◌-◌ _ l.counts _ (rw end at l.invariant.1)
