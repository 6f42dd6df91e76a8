-- `balanced_listed_to_lanes` meets its contract: the number of what `listed_to_lanes` answers.
use Rattle.balanced_c.proofs.Answers.{rearrange_gives}
use Rattle.balanced_c.proofs.rearranging.balanced_listed_to_lanes.Goals as goal

pub returns : goal.returns
returns c = rearrange_gives _ _ _ _ _ _ _ _ _ _ c.number_of.ensures c.listed_to_lanes.ensures
