use Rattle.tiles.specs.Inner.Squares.{Squared}
use Rattle.tiles.proofs.squares.put_square.Given as goal

abbrev pub invariant-loop-i : goal.invariant-loop-i
invariant-loop-i l = Squared l.width l.i l.a l.first l.initial.rows l.rows
