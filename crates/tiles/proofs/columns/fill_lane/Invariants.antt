-- `fill_lane` meets its contract. Invariant: the first i symbols of the lane are written.
use Rattle.std.proofs.Common.{ℕ, ◌+◌, ◌*◌, ◌<◌, ◌≡◌, get_or}
use Rattle.tiles.proofs.columns.fill_lane.Given as goal

abbrev pub invariant-loop-i : goal.invariant-loop-i
invariant-loop-i l = (k : ℕ) → k < l.i → get_or l.lane k 0 ≡ get_or l.table (k * l.width + l.t) 0
