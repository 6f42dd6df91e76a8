-- `balanced_correct_listed` meets its contract: the number of what `correct_listed` answers, and its count.
use Rattle.balanced_c.proofs.Corrections.{listed_gives}
use Rattle.balanced_c.proofs.correction.balanced_correct_listed.Goals as goal

pub returns : goal.returns
returns c = listed_gives _ _ _ _ _ _ _ _ _ _ c.correct_listed-answer.ensures _ _ c.hand_over.ensures.0 c.hand_over.ensures.1
