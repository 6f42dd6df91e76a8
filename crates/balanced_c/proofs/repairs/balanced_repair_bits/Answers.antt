-- `balanced_repair_bits` meets its contract: the number of what `repair_bits` answers.
use Rattle.balanced_c.proofs.Repairing.{bits_give}
use Rattle.balanced_c.proofs.repairs.balanced_repair_bits.Goals as goal

pub returns : goal.returns
returns c = bits_give _ _ _ _ _ _ _ _ _ _ c.number_of.ensures c.repair_bits.ensures
