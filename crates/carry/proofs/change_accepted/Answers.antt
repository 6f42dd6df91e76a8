-- `change_accepted` meets its contract: it writes only where no number is met.
use Rattle.std.proofs.Common.{refl}
use Rattle.generator.specs.Answers.{answer_of}
use Rattle.generator.proofs.Answered.{exit, done_is, value_is, refused_is}
use Rattle.carry.proofs.Accepts.{in_accepts, change_accepts, change_refuses, good_symbols}
use Rattle.carry.proofs.change_accepted.Goals as goal

pub returns-in_err-carrying : goal.returns-in_err-carrying
returns-in_err-carrying c =
    let met = refused_is _ _ _ c.in_err-carrying.ensures in
    rw (exit _ c.from_residual.ensures.1, ← met.0) (change_refuses _ _ met.1 _ _ _)

pub change-requires : goal.change-requires
change-requires c =
    let found = c.in_ok-carrying.ensures in
    let can = change_accepts _ _ _ _ _ (done_is _ _ found) in
    rw (value_is _ _ found) ((in_accepts _ _ _ can.carried).1, can.inside, good_symbols _ _ can.good)

pub returns : goal.returns
unfolding answer_of
returns c =
    let found = c.in_ok-carrying.ensures in
    rw (done_is _ _ found) (record { answered = refl; written = rw (value_is _ _ found) at c.change.ensures })
