-- `apply` meets its contract: the tile is loaded, and every output made.
use Rattle.field.specs.Kinds.{modulus}
use Rattle.tile_products.proofs.Lanes.{outputs_lanes}
use Rattle.tile_products.proofs.matrix.Matrix.apply.Goals as goal

pub returns : goal.returns
returns c =
    let m = c.args.self.shape in
    let made = rw (c.new.ensures.matrix, c.new.ensures.tile) at c.outputs.ensures in
    λ w begun. outputs_lanes (modulus m.field) m.rows m.outputs w c.args.tile.now (made w begun)
