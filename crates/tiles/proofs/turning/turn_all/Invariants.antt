-- `turn_all` meets its contract. The loop's invariant: the columns of the squares below i are turned.
use Rattle.std.proofs.Common.{min, ◌*◌}
use Rattle.tiles.specs.Inner.Squares.{TurnedTo}
use Rattle.tiles.proofs.turning.turn_all.Given as goal

abbrev pub invariant-loop-i : goal.invariant-loop-i
invariant-loop-i l = TurnedTo l.width l.to 0 (min (l.i * 16) l.columns) l.count l.rows l.initial.out l.out
