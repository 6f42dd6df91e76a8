-- `rearrange_shares` meets its contract: the record's number, or what moving over its code gives.
use Rattle.std.proofs.Common.{refl}
use Rattle.generator.proofs.Answered.{exit}
use Rattle.refusals.proofs.OnRecord.{on_held, on_met}
use Rattle.rearrange.proofs.Refused.{rearrange_refuses}
use Rattle.rearrange.proofs.rearrange_shares.Goals as goal

pub returns-in_err-code : goal.returns-in_err-code
returns-in_err-code c =
    rw (exit _ c.from_residual.ensures.1) (on_met c.in_err-code.ensures refl (λ h some. rearrange_refuses h _ some _ _ _ _))

pub returns : goal.returns
returns c = on_held c.in_ok-code.ensures refl (rw c.rows-rows.ensures at c.rearrange_accepted.ensures)
