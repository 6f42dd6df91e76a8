-- `move_row` meets its contract. The loop's invariant: the bytes below i are written.
use Rattle.std.proofs.Common.{ℕ, ◌<◌, ◌≡◌, get_or}
use Rattle.tiles.proofs.moves.move_row.Given as goal

abbrev pub invariant-loop-i : goal.invariant-loop-i
invariant-loop-i l = (k : ℕ) → k < l.i → get_or l.to k 0 ≡ get_or l.from k 0
