-- `balanced_encode` meets its contract: the number of what `encode_block` answers.
use Rattle.balanced_c.proofs.Answers.{encode_gives}
use Rattle.balanced_c.proofs.balanced_encode.Goals as goal

pub returns : goal.returns
returns c = encode_gives _ _ _ _ _ _ _ c.number_of.ensures c.encode_block.ensures
