-- `repair_share` meets its contract: the record's number, or what is promised over its header.
use Rattle.std.proofs.Common.{refl}
use Rattle.generator.proofs.Answered.{exit}
use Rattle.refusals.proofs.OnRecord.{on_held, on_met}
use Rattle.repair.proofs.Accepts.{share_refuses}
use Rattle.repair.proofs.repair_share.Goals as goal

pub returns : goal.returns
returns c = on_held c.in_ok-code.ensures refl (rw c.new-codec.ensures at c.share_accepted.ensures)

pub returns-in_err-code : goal.returns-in_err-code
returns-in_err-code c =
    rw (exit _ c.from_residual.ensures.1) (on_met c.in_err-code.ensures refl (λ h some. share_refuses h _ some _ _ _ _ _))
