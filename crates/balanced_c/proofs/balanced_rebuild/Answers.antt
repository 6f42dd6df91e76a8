-- `balanced_rebuild` meets its contract: the number of what `rebuild_share` answers.
use Rattle.balanced_c.proofs.Answers.{rebuild_gives}
use Rattle.balanced_c.proofs.balanced_rebuild.Goals as goal

pub returns : goal.returns
returns c = rebuild_gives _ _ _ _ _ _ _ _ _ c.number_of.ensures c.rebuild_share.ensures
