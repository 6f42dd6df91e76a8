-- `build_plan` meets its contract: the plan of what was read, and the claims of an accepted record.
use Rattle.std.specs.Prelude.{Ok, ℕ}
use mathlib.Core.Path.{◌≡◌, refl, ap, ◌∙◌}
use mathlib.Core.List.{List}
use Rattle.generator.specs.declared.Header.{Header}
use Rattle.generator.specs.Answers.{Answer}
use Rattle.generator.specs.Records.{record_of}
use Rattle.generator.proofs.Answered.{exit}
use Rattle.generator.proofs.Claims.{promised}
use Rattle.plan.specs.declared.Plan.{Plan}
use Rattle.plan.specs.Plans.{plan_for, PlanSays}
use Rattle.plan.proofs.build_plan.Goals as goal

-- the plan of the record that was read
says : (rec : List ℕ) (r : Answer Plan) (read : Answer Header) → read ≡ record_of rec → r ≡ plan_for read → PlanSays rec r
says rec r read e is = record { plan = is ∙ ap plan_for e; claims = promised rec (record_of rec) refl }

pub returns-in_err-code : goal.returns-in_err-code
unfolding plan_for
returns-in_err-code c = rw (exit _ c.from_residual.ensures.1) (says _ _ _ c.in_err-code.ensures refl)

pub returns : goal.returns
unfolding plan_for
returns c = says _ _ _ c.in_ok-code.ensures (ap Ok c.plan_of.ensures)
