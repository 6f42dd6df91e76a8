-- `factor` meets its contract.
use Rattle.traces.specs.Repairs.{factor}
use Rattle.repair_tables.proofs.nodes.Target.factor.Goals as goal

pub returns : goal.returns
unfolding factor
returns c =
    let same = c.args.self.codec.same in
    record { is = rw (c.mul-x.ensures.is, c.eraser-z.ensures.is, c.inverse-y.ensures.is, c.offset.ensures.is, c.ratio-u.ensures.is, same) at c.mul.ensures.is; symbol = rw same at c.mul.ensures.symbol }
