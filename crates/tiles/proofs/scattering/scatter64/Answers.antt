-- `scatter64` meets its contract, by one way or another.
use Rattle.std.proofs.Common.{◌∙◌}
use Rattle.tiles.proofs.Blocks.{turned_out}
use Rattle.tiles.proofs.scattering.scatter64.Goals as goal

pub returns : goal.returns
returns c =
    let a = c.args in
    let made = c.turn_all.ensures in
    turned_out a.n a.count a.tile.now _ (made.long ∙ c.requires.4) (λ t i lane row. made.holds t i lane row row)
