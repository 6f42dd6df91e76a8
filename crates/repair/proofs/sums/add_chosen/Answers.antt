-- `sums::add_chosen` meets its contract.
use Rattle.repair.proofs.Adding.{chosen_none}
use Rattle.repair.proofs.sums.add_chosen.Goals as goal

pub returns-else-bit-eq1 : goal.returns-else-bit-eq1
returns-else-bit-eq1 c = chosen_none c.args.bit c.args.row.now c.args.acc.now c.requires.0 c.if-bit-eq1.false
