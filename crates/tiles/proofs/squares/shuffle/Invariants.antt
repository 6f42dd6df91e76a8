use Rattle.std.proofs.Common.{◌*◌}
use Rattle.lists.proofs.Parts.{Valued}
use Rattle.tiles.proofs.Shuffles.{shuffled_at}
use Rattle.tiles.proofs.squares.shuffle.Given as goal

abbrev pub invariant-loop-i : goal.invariant-loop-i
invariant-loop-i l = Valued (shuffled_at l.x) 256 l.initial.y l.y (2 * l.i)
