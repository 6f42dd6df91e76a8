-- `balanced_mends` meets its contract: the number of what `single_mends` answers, and its count.
use Rattle.balanced_c.proofs.Lanes.{mends_give}
use Rattle.balanced_c.proofs.one_lane.balanced_mends.Goals as goal

pub returns : goal.returns
returns c = mends_give _ _ _ _ _ _ _ _ _ _ c.hand_over.ensures.0 c.hand_over.ensures.1 c.single_mends.ensures
