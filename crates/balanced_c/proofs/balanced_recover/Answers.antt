-- `balanced_recover` meets its contract: the number of what `recover_block` answers.
use Rattle.balanced_c.proofs.Answers.{recover_gives}
use Rattle.balanced_c.proofs.balanced_recover.Goals as goal

pub returns : goal.returns
returns c = recover_gives _ _ _ _ _ _ _ _ c.number_of.ensures c.recover_block.ensures
