use Rattle.std.proofs.Common.{◌*◌}
use Rattle.lists.proofs.Parts.{Valued}
use Rattle.tiles.proofs.Blocks.{square_byte}
use Rattle.tiles.proofs.squares.take_square.Given as goal

abbrev pub invariant-loop-i : goal.invariant-loop-i
invariant-loop-i l = Valued (square_byte l.width l.first l.rows) 256 l.initial.a l.a (l.i * 16)
