-- `load_row` meets its contract. The loop's invariant: the rows below v are loaded.
use Rattle.std.proofs.Common.{◌+◌, ◌*◌, get_or}
use Rattle.tiles.specs.Inner.Tiles.{TileOf}
use Rattle.block_products.proofs.job.Part.load_row.Given as goal

abbrev pub invariant-loop-v : goal.invariant-loop-v
invariant-loop-v l = TileOf l.w.bytes l.v l.self.count (λ v q. get_or l.part (q * l.w.bytes + v) 0) l.rows
