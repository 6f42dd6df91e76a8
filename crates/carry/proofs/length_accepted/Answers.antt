-- `length_accepted` meets its contract.
use Rattle.std.proofs.Common.{refl}
use Rattle.generator.specs.Answers.{answer_of}
use Rattle.carry.proofs.Accepts.{length_accepts, length_refuses}
use Rattle.generator.proofs.Answered.{exit, done_is, value_is, refused_is}
use Rattle.carry.proofs.length_accepted.Goals as goal

pub returns-in_err-carrying : goal.returns-in_err-carrying
returns-in_err-carrying c =
    let met = refused_is _ _ _ c.in_err-carrying.ensures in
    rw (exit _ c.from_residual.ensures.1, ← met.0) (length_refuses _ _ met.1 _)

pub carried_length-requires : goal.carried_length-requires
carried_length-requires c = (length_accepts _ _ (done_is _ _ c.in_ok-carrying.ensures)).few

pub returns : goal.returns
unfolding answer_of
returns c =
    let found = c.in_ok-carrying.ensures in
    rw (done_is _ _ found, c.carried_length.ensures, value_is _ _ found) (record { answered = refl })
