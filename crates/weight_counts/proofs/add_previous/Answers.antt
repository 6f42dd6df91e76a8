-- `add_previous` meets its contract. Invariant: the places from b on are replaced (`Renewed`).
use Rattle.std.proofs.Common.{◌≡◌, arith}
use Rattle.weight_counts.proofs.Previous.{renewed_end}
use Rattle.weight_counts.proofs.add_previous.Invariants.{wrapped}
use Rattle.weight_counts.proofs.add_previous.Goals as goal

pub returns : goal.returns
returns c =
    let l = c.loop-b in
    let end : l.b ≡ 1 = omega arith in
    renewed_end wrapped _ l.row 1 (rw end at l.invariant.1)
