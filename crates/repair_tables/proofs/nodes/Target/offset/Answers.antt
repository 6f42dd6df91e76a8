-- `offset` meets its contract.
use Rattle.field.proofs.Bounds.{one_below}
use Rattle.traces.specs.Repairs.{offset}
use Rattle.repair_tables.proofs.nodes.Target.offset.Goals as goal

pub sub-requires : goal.sub-requires
sub-requires c = rw c.args.self.codec.same (c.ratio-u.ensures.symbol, one_below _ c.args.self.codec.code.sound.field)

pub returns : goal.returns
unfolding offset
returns c =
    let same = c.args.self.codec.same in
    record { is = rw (c.ratio-u.ensures.is, same) at c.sub.ensures.is; symbol = rw same at c.sub.ensures.symbol }
