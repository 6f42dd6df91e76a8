-- `right` meets its contract: the lane is of listed symbols.
use Rattle.correct_listed.proofs.Lanes.{is_listed}
use Rattle.correct_listed.proofs.lane.Marked.right.Goals as goal

pub invariant_of-received : goal.invariant_of-received
invariant_of-received c =
    let m = c.args.self in
    record { listed = rw c.requires.1 (is_listed m.rows.code.sound m.listed m.symbols c.args.t c.requires.0) }
