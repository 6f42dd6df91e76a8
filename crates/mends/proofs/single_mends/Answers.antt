-- `single_mends` meets its contract: the record's number, or the promise over its header.
use mathlib.Core.Path.{refl, sym}
use Rattle.generator.proofs.Answered.{exit}
use Rattle.refusals.proofs.OnRecord.{on_header, on_number}
use Rattle.mends.proofs.Accepts.{mends_refuses, mended_lanes}
use Rattle.mends.proofs.single_mends.Goals as goal

pub returns-in_err-code : goal.returns-in_err-code
returns-in_err-code c =
    rw (exit _ c.from_residual.ensures.1) record { listed = on_number _ (sym c.in_err-code.ensures) (λ h some. mends_refuses h _ some _ _ _); claims = mended_lanes _ _ refl }

pub returns : goal.returns
returns c =
    record { listed = on_header _ (sym c.in_ok-code.ensures) c.mends_accepted.ensures; claims = mended_lanes _ _ refl }
