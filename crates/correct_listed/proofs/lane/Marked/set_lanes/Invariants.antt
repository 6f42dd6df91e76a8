-- `set_lanes` meets its contract. Invariant: the lanes before t are set right and counted.
use mathlib.Core.Path.{◌≡◌}
use Rattle.correct_listed.proofs.SetLanes.{message_to, wrong_to}
use Rattle.correct_listed.proofs.lane.Marked.set_lanes.Given as goal

abbrev pub invariant-loop-t : goal.invariant-loop-t
invariant-loop-t l =
    let m = l.self in
    let h = m.rows.code.header in
    (l.message ≡ message_to h m.nodes.now m.lanes m.shares.now l.t) × (l.wrong ≡ wrong_to h m.nodes.now m.lanes m.shares.now l.t)
