-- `rebuild_share` meets its contract: the record's number, or what Rebuild over its header gives.
use Rattle.std.proofs.Common.{refl}
use Rattle.generator.proofs.Answered.{exit}
use Rattle.refusals.proofs.OnRecord.{on_held, on_met}
use Rattle.recover.proofs.Accepts.{rebuild_refuses}
use Rattle.recover.proofs.rebuild_share.Goals as goal

pub returns : goal.returns
returns c = on_held c.in_ok-code.ensures refl c.rebuild_accepted.ensures

pub returns-in_err-code : goal.returns-in_err-code
returns-in_err-code c =
    rw (exit _ c.from_residual.ensures.1) (on_met c.in_err-code.ensures refl (λ h some. rebuild_refuses h _ some _ _ _ _ _))
