-- `fill_blocks` meets its contract. The loop's invariant: the first b blocks are filled.
use Rattle.std.proofs.Common.{◌*◌}
use Rattle.lists.proofs.Parts.{Valued}
use Rattle.tiles.proofs.Scattered.{block_byte}
use Rattle.tiles.proofs.scattering.fill_blocks.Given as goal

abbrev pub invariant-loop-b : goal.invariant-loop-b
invariant-loop-b l = Valued (block_byte l.tile) (l.count * 1024) l.initial.blocks l.blocks (l.b * 1024)
