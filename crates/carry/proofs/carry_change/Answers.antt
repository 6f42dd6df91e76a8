-- `carry_change` meets its contract: the record's number, or what its header gives.
use Rattle.std.proofs.Common.{refl}
use Rattle.generator.proofs.Answered.{exit}
use Rattle.refusals.proofs.OnRecord.{on_held, on_met}
use Rattle.carry.proofs.Accepts.{change_refuses}
use Rattle.carry.proofs.carry_change.Goals as goal

pub returns : goal.returns
returns c = on_held c.in_ok-code.ensures refl c.change_accepted.ensures

pub returns-in_err-code : goal.returns-in_err-code
returns-in_err-code c =
    rw (exit _ c.from_residual.ensures.1) (on_met c.in_err-code.ensures refl (λ h some. change_refuses h _ some _ _ _))
