-- `update_lanes` meets its contract: the record's number, or what the call over its header gives.
use mathlib.Core.Path.{sym}
use Rattle.generator.proofs.Answered.{exit}
use Rattle.refusals.proofs.OnRecord.{on_header, on_number}
use Rattle.update_lanes.proofs.Accepts.{run_refuses}
use Rattle.update_lanes.proofs.update_lanes.Goals as goal

pub returns-in_err-code : goal.returns-in_err-code
returns-in_err-code c =
    rw (exit _ c.from_residual.ensures.1) (on_number _ (sym c.in_err-code.ensures) (λ h some. run_refuses h _ some _ _ _ _ _ _))

pub returns : goal.returns
returns c = on_header _ (sym c.in_ok-code.ensures) c.update_lanes_accepted.ensures
