-- `Bits::spare` meets its contract.
use Rattle.traces.specs.Repairs.{spare}
use Rattle.repair_tables.proofs.Steps.{needed_is}
use Rattle.repair_tables.proofs.bits.Bits.spare.Goals as goal

pub returns : goal.returns
unfolding spare
returns c =
    rw (c.saturating_sub-2.ensures, c.saturating_sub.ensures, c.checks-r.ensures, c.count.ensures, needed_is c.args.self, c.requires)
