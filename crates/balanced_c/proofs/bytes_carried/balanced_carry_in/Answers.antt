-- `balanced_carry_in` meets its contract: the number of what `carry_in` answers.
use Rattle.balanced_c.proofs.BytesCarried.{carry_in_gives}
use Rattle.balanced_c.proofs.bytes_carried.balanced_carry_in.Goals as goal

pub returns : goal.returns
returns c = carry_in_gives _ _ _ _ _ _ c.number_of.ensures c.carry_in.ensures
