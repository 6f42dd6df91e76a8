-- `balanced_update_lanes` meets its contract: the number of what `update_lanes` answers, and its count.
use Rattle.balanced_c.proofs.RowChanges.{update_lanes_gives}
use Rattle.balanced_c.proofs.changes.balanced_update_lanes.Goals as goal

pub returns : goal.returns
returns c = update_lanes_gives _ _ _ _ _ _ _ _ _ _ _ _ c.hand_over.ensures.0 c.hand_over.ensures.1 c.update_lanes-answer.ensures
