-- `balanced_correct` meets its contract: the number of what `correct_block` answers, and its count.
use Rattle.balanced_c.proofs.Corrections.{correct_gives}
use Rattle.balanced_c.proofs.correction.balanced_correct.Goals as goal

pub returns : goal.returns
returns c = correct_gives _ _ _ _ _ _ c.correct_block.ensures _ _ c.hand_over.ensures.0 c.hand_over.ensures.1
