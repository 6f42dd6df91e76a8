-- `balanced_weights` meets its contract: the number of what `weight_counts` answers.
use Rattle.balanced_c.proofs.Answers.{weights_give}
use Rattle.balanced_c.proofs.balanced_weights.Goals as goal

pub returns : goal.returns
returns c = weights_give _ _ _ _ _ c.number_of.ensures c.weight_counts.ensures
