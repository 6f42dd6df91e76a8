-- `ratio` meets its contract.
use Rattle.traces.specs.Repairs.{ratio}
use Rattle.repair_tables.proofs.nodes.Target.ratio.Goals as goal

pub returns : goal.returns
unfolding ratio
returns c =
    let same = c.args.self.codec.same in
    record { is = rw same at c.power.ensures.is; symbol = rw same at c.power.ensures.symbol }
