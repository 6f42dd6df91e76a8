-- `balanced_repair_share` meets its contract: the number of what `repair_share` answers.
use Rattle.balanced_c.proofs.Repairing.{share_gives}
use Rattle.balanced_c.proofs.repairs.balanced_repair_share.Goals as goal

pub returns : goal.returns
returns c = share_gives _ _ _ _ _ _ _ _ _ c.number_of.ensures c.repair_share.ensures
