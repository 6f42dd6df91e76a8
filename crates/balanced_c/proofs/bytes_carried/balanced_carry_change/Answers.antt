-- `balanced_carry_change` meets its contract: the number of what `carry_change` answers.
use Rattle.balanced_c.proofs.BytesCarried.{carry_change_gives}
use Rattle.balanced_c.proofs.bytes_carried.balanced_carry_change.Goals as goal

pub returns : goal.returns
returns c = carry_change_gives _ _ _ _ _ _ _ _ c.number_of.ensures c.carry_change.ensures
