-- `balanced_to_lanes` meets its contract: the number of what `to_lanes` answers.
use Rattle.balanced_c.proofs.Answers.{rearrange_gives}
use Rattle.balanced_c.proofs.rearranging.balanced_to_lanes.Goals as goal

pub returns : goal.returns
returns c = rearrange_gives _ _ _ _ _ _ _ _ _ _ c.number_of.ensures c.to_lanes.ensures
