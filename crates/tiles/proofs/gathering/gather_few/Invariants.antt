-- `gather_few` meets its contract. The loop's invariant: the rows of the blocks below b are in the tile.
use Rattle.std.proofs.Common.{◌*◌, ◌≡◌, length}
use Rattle.layout.specs.Layout.{lane_after_lane, held}
use Rattle.tiles.specs.Inner.Tiles.{TileOf}
use Rattle.tiles.proofs.gathering.gather_few.Given as goal

abbrev pub invariant-loop-b : goal.invariant-loop-b
invariant-loop-b l = (length l.block ≡ 1024) × (length l.tile ≡ length l.initial.tile) × TileOf l.lanes.rows (l.b * 16) l.lanes.count (λ i t. held lane_after_lane l.lanes.rows l.lanes.count l.lanes.bytes.now i t) l.tile
