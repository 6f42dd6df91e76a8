-- `fill_block` meets its contract. The loop's invariant: the block holds the lanes below t.
use Rattle.tiles.specs.Inner.Tiles.{BlockOf}
use Rattle.tiles.proofs.gathering.fill_block.Given as goal

abbrev pub invariant-loop-t : goal.invariant-loop-t
invariant-loop-t l = BlockOf l.lanes.rows l.j l.t l.lanes.bytes.now l.block
