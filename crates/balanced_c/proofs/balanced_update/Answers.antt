-- `balanced_update` meets its contract: the number of what `update_lane` answers, and its count.
use Rattle.balanced_c.proofs.Answers.{update_gives}
use Rattle.balanced_c.proofs.balanced_update.Goals as goal

pub returns : goal.returns
returns c = update_gives _ _ _ _ _ _ _ _ _ _ _ _ c.hand_over.ensures.0 c.hand_over.ensures.1 c.update_lane-answer.ensures
