-- `write_plan` meets its contract: the number and nothing written, or every part of the plan.
use mathlib.Core.Path.{sym, ◌∙◌}
use Rattle.generator.proofs.Answered.{exit}
use Rattle.balanced_c.specs.Calls.{numbers_of}
use Rattle.balanced_c.proofs.Plans.{plan_refused, plan_given}
use Rattle.balanced_c.proofs.write_plan.Goals as goal

pub returns-in_err-plan : goal.returns-in_err-plan
returns-in_err-plan c = rw (exit _ c.from_residual.ensures.1) (plan_refused _ _ _ _ _ _ c.in_err-plan.ensures)

pub returns : goal.returns
unfolding numbers_of
returns c =
    rw (c.copy_from_slice.ensures.after, c.copy_from_slice-2.ensures.after, c.copy_from_slice-3.ensures.after, c.copy_from_slice-4.ensures.after)
    (plan_given _ _ _ _ _ _ c.in_ok-plan.ensures (sym c.room_bad-bad.ensures ∙ c.in_ok-when.ensures))
