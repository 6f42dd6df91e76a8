-- `balanced_repair_plan` meets its contract, in each arm of the match.
use Rattle.balanced_c.proofs.Repairing.{plan_sends, plan_refuses}
use Rattle.balanced_c.proofs.repairs.balanced_repair_plan.Goals as goal

pub returns-in-Ok : goal.returns-in-Ok
returns-in-Ok c = plan_sends _ _ _ _ _ c.in-Ok.ensures

pub returns-in-Err : goal.returns-in-Err
returns-in-Err c = rw c.from.ensures (plan_refuses _ _ _ _ _ c.in-Err.ensures)
