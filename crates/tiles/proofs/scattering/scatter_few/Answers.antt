-- `scatter_few` meets its contract: the rows become blocks, and the blocks lanes.
use Rattle.std.proofs.Common.{◌+◌, ◌/◌, ◌≡◌, arith}
use Rattle.tiles.proofs.Scattered.{lanes_of_tile}
use Rattle.tiles.proofs.scattering.scatter_few.Goals as goal

pub returns : goal.returns
returns c =
    let count : c.div_ceil.result ≡ (c.args.n + 15) / 16 = omega arith in
    rw (c.fill_lanes.ensures, c.fill_blocks.ensures, count) (lanes_of_tile c.args.tile.now c.args.n c.args.count c.requires.0)
