-- `counts_accepted` meets its contract: counts are written only where no number is met.
use Rattle.generator.specs.Answers.{answer_of}
use Rattle.weight_counts.proofs.Refused.{weights_refuses}
use Rattle.weight_counts.proofs.Powers.{accepts}
use Rattle.generator.proofs.Answered.{exit, done_is, refused_is}
use Rattle.weight_counts.proofs.counts_accepted.Goals as goal

pub returns-in_err-weights_fault : goal.returns-in_err-weights_fault
returns-in_err-weights_fault c =
    let met = refused_is _ _ _ c.in_err-weights_fault.ensures in
    rw (exit _ c.from_residual.ensures.1, ← met.0) (weights_refuses _ _ met.1 _)

pub invariant_of-fill_counts : goal.invariant_of-fill_counts
invariant_of-fill_counts c = record { small = (accepts _ c.args.code.sound _ (done_is _ _ c.in_ok-weights_fault.ensures)).0 }

pub fill_counts-requires : goal.fill_counts-requires
fill_counts-requires c = (accepts _ c.args.code.sound _ (done_is _ _ c.in_ok-weights_fault.ensures)).1

pub returns : goal.returns
unfolding answer_of
returns c =
    let none = done_is _ _ c.in_ok-weights_fault.ensures in
    record { answered = rw none; written = rw none c.fill_counts.ensures }
