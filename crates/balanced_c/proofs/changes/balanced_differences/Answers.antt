-- `balanced_differences` meets its contract: the number of what `differences` answers.
use Rattle.balanced_c.proofs.RowChanges.{differences_give}
use Rattle.balanced_c.proofs.changes.balanced_differences.Goals as goal

pub returns : goal.returns
returns c = differences_give _ _ _ _ _ _ _ _ _ c.number_of.ensures c.differences.ensures
