-- `balanced_add_share` meets its contract: the number of what `add_share` answers.
use Rattle.balanced_c.proofs.RowChanges.{add_gives}
use Rattle.balanced_c.proofs.changes.balanced_add_share.Goals as goal

pub returns : goal.returns
returns c = add_gives _ _ _ _ _ _ _ c.number_of.ensures c.add_share.ensures
