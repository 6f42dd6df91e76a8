-- `put_rows` meets its contract. The loop's invariant: the rows below r have their lanes.
use Rattle.tiles.specs.Inner.Beside.{Beside}
use Rattle.tiles.proofs.many_lanes.put_rows.Given as goal

abbrev pub invariant-loop-r : goal.invariant-loop-r
invariant-loop-r l =
    Beside l.width l.first l.count l.r l.block l.initial.tile l.tile
