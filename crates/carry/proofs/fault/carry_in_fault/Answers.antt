-- What the tests before it found bounds the bytes.
use Rattle.generator.proofs.Answered.{done_is}
use Rattle.carry.proofs.Accepts.{length_accepts}
use Rattle.carry.proofs.fault.carry_in_fault.Goals as goal

pub carried_length-requires : goal.carried_length-requires
carried_length-requires c = (length_accepts _ _ (done_is _ _ c.in_ok-carrying.ensures)).few
