-- `choose_record` meets its contract: it writes only where no number is met.
use mathlib.Core.Path.{◌≡◌}
use native.Mathlib.Omega.{arith}
use lib.ListN.{length}
use Rattle.generator.proofs.Answered.{exit, done_is, refused_is}
use Rattle.generator.specs.Answers.{answer_of}
use Rattle.choose.specs.Promise.{choose_fault}
use Rattle.choose.proofs.Written.{Asked, choose_accepts, choose_refuses}
use Rattle.choose.proofs.choose_record.Goals as goal
use Rattle.choose.proofs.choose_record.Goals.{In_ok-choose_fault}

-- no number is met
none : (c : In_ok-choose_fault) → choose_fault c.args.n c.args.k (length c.args.out.now) ≡ 0
none c = done_is _ _ c.in_ok-choose_fault.ensures

asked : (c : In_ok-choose_fault) → Asked c.args.n c.args.k c.args.out.now
asked c = choose_accepts _ _ _ (none c)

pub returns-in_err-choose_fault : goal.returns-in_err-choose_fault
returns-in_err-choose_fault c =
    let met = refused_is _ _ _ c.in_err-choose_fault.ensures in
    rw (exit _ c.from_residual.ensures.1, ← met.0) (choose_refuses _ _ _ _ met.1)

pub overflow_cast-n : goal.overflow_cast-n
overflow_cast-n c = omega (arith, (asked c).byte)

pub overflow_cast-k : goal.overflow_cast-k
overflow_cast-k c = omega (arith, (asked c).byte, (asked c).fits)

pub write_chosen-requires : goal.write_chosen-requires
write_chosen-requires c =
    let can = asked (goal.at.write_chosen-requires c).In_ok-choose_fault in
    (can.two, can.room)

pub returns : goal.returns
unfolding answer_of
returns c =
    rw (none (goal.at.returns c).In_ok-choose_fault) (record { answered = rw c.write_chosen.ensures.0; written = c.write_chosen.ensures.1 })
