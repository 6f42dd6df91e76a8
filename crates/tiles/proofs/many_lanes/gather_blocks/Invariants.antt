-- `gather_blocks` meets its contract. The loop's invariant: the lanes of the blocks below b are gathered.
use Rattle.std.proofs.Common.{◌≡◌, min, ◌*◌, length}
use Rattle.tiles.proofs.Beside.{Gathered}
use Rattle.tiles.proofs.many_lanes.gather_blocks.Given as goal

abbrev pub invariant-loop-b : goal.invariant-loop-b
invariant-loop-b l =
    (length l.block ≡ length l.initial.block) × (length l.tile ≡ length l.initial.tile) × Gathered l.lanes.rows l.lanes.count l.lanes.bytes.now (min (l.b * 64) l.lanes.count) l.tile
