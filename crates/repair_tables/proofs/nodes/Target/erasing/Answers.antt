-- `erasing` meets its contract.
use Rattle.field.proofs.Bounds.{one_below}
use Rattle.traces.specs.Repairs.{erasing}
use Rattle.repair_tables.proofs.nodes.Target.erasing.Goals as goal

pub sub-requires : goal.sub-requires
sub-requires c = rw c.args.self.codec.same (one_below _ c.args.self.codec.code.sound.field, c.ratio-v.ensures.symbol)

pub returns : goal.returns
unfolding erasing
returns c =
    let same = c.args.self.codec.same in
    record { is = rw (c.sub-over.ensures.is, c.inverse-under.ensures.is, c.sub.ensures.is, c.ratio-v.ensures.is, same) at c.mul.ensures.is; symbol = rw same at c.mul.ensures.symbol }
