-- `nearest` meets its contract: the lane as symbols in an array, whose first n places are decoded.
use Rattle.correct.proofs.LaneSymbols.{held_sound}
use Rattle.correct.proofs.lane.Marked.nearest.Goals as goal

pub invariant_of-received : goal.invariant_of-received
invariant_of-received c =
    let s = held_sound _ _ _ c.requires.1 (rw c.width_of.ensures at c.read_symbols-held.ensures) in
    record { long = s.long; below = s.below }
