-- `balanced_carry_out` meets its contract: the number of what `carry_out` answers.
use Rattle.balanced_c.proofs.BytesCarried.{carry_out_gives}
use Rattle.balanced_c.proofs.bytes_carried.balanced_carry_out.Goals as goal

pub returns : goal.returns
returns c = carry_out_gives _ _ _ _ _ _ c.number_of.ensures c.carry_out.ensures
