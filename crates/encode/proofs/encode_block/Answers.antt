-- `encode_block` meets its contract: the record's number, or what encoding over its header gives.
use mathlib.Core.Path.{sym}
use Rattle.generator.proofs.Answered.{exit}
use Rattle.refusals.proofs.OnRecord.{on_header, on_number}
use Rattle.encode.proofs.Accepts.{encode_refuses}
use Rattle.encode.proofs.encode_block.Goals as goal

pub returns-in_err-code : goal.returns-in_err-code
returns-in_err-code c =
    rw (exit _ c.from_residual.ensures.1) (on_number _ (sym c.in_err-code.ensures) (λ h some. encode_refuses h _ some _ _ _))

pub returns : goal.returns
returns c = on_header _ (sym c.in_ok-code.ensures) c.encode_accepted.ensures
