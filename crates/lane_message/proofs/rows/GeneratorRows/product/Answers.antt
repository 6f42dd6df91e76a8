-- `product` meets its contract, whether the shifts come in rounds or not.
use Rattle.node_weights.proofs.Parts.{row_symbols}
use Rattle.lane_message.proofs.Points.{few}
use Rattle.lane_message.proofs.rows.GeneratorRows.product.Goals as goal
use Rattle.lane_message.proofs.rows.GeneratorRows.product.Goals.{Start}

pub invariant_of-product : goal.invariant_of-product
invariant_of-product c =
    let v = c.args.self.transform in
    record { symbols = rw (v.powers.codec.same, c.requires) (row_symbols v.powers.codec.code.header v.powers.codec.code.sound (few _ c.args.self.transform.powers.codec.code.sound)).are }
