-- `balanced_to_nodes` meets its contract: the number of what `to_nodes` answers.
use Rattle.balanced_c.proofs.Answers.{rearrange_gives}
use Rattle.balanced_c.proofs.rearranging.balanced_to_nodes.Goals as goal

pub returns : goal.returns
returns c = rearrange_gives _ _ _ _ _ _ _ _ _ _ c.number_of.ensures c.to_nodes.ensures
