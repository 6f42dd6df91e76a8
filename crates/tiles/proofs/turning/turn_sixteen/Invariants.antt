-- `turn_sixteen` meets its contract. The loop's invariant: the rows of the squares below i are turned.
use Rattle.std.proofs.Common.{min, ◌*◌}
use Rattle.tiles.specs.Inner.Squares.{TurnedTo}
use Rattle.tiles.proofs.turning.turn_sixteen.Given as goal

abbrev pub invariant-loop-i : goal.invariant-loop-i
invariant-loop-i l = TurnedTo l.width l.to l.first 16 (min (l.i * 16) l.count) l.rows l.initial.out l.out
