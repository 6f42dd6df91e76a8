-- `plan_accepted` meets its contract: number 17, or the bits and how many further nodes may be missing.
use Rattle.std.specs.Prelude.{◌≡◌, Ok}
use Rattle.std.proofs.Common.{refl, ap, ◌∙◌}
use Rattle.generator.specs.Answers.{answer_of}
use Rattle.generator.specs.Inner.Answers.{numbered_by}
use Rattle.generator.proofs.Answered.{exit, done_is, value_is, refused_is}
use Rattle.traces.specs.Repairs.{bits}
use Rattle.repair_tables.specs.Inner.Bits.{bit_count}
use Rattle.repair.specs.Promise.{repair_plan_fault}
use Rattle.repair.proofs.Accepts.{plan_refuses}
use Rattle.repair.proofs.Judging.{judged}
use Rattle.repair.proofs.plan_accepted.Goals as goal
use Rattle.repair.proofs.plan_accepted.Goals.{In_ok-b}

pub returns-in_err-b : goal.returns-in_err-b
unfolding repair_plan_fault
returns-in_err-b c =
    let met = refused_is _ _ _ (ap (numbered_by bit_count) c.in_err-b.ensures.value ∙ judged _ _ _ c.new.ensures) in
    rw (exit _ c.from_residual.ensures.1, met.0) (plan_refuses _ _ (λ z. met.1 (met.0 ∙ z)) _)

-- no number is met, and the bits
found : (c : In_ok-b) → Ok (bit_count c.in_ok-b.b) ≡ answer_of (repair_plan_fault c.args.code.header c.args.missing) (bits c.args.code.header c.args.missing)
unfolding repair_plan_fault
found c = ap (numbered_by bit_count) c.in_ok-b.ensures.value ∙ judged _ _ _ c.new.ensures

pub returns : goal.returns
unfolding answer_of
returns c =
    let is = found (goal.at.returns c).In_ok-b in
    record { answered = rw (done_is _ _ is, c.count-bits.ensures ∙ value_is _ _ is, c.spare-spare.ensures) refl }
