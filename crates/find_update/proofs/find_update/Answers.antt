-- `find_update` meets its contract: the record's number, or the promise over its header.
use mathlib.Core.Path.{refl, sym}
use Rattle.generator.proofs.Answered.{exit}
use Rattle.refusals.proofs.OnRecord.{on_header, on_number}
use Rattle.find_update.proofs.Accepts.{find_refuses, found_lanes}
use Rattle.find_update.proofs.find_update.Goals as goal

pub returns-in_err-code : goal.returns-in_err-code
returns-in_err-code c =
    rw (exit _ c.from_residual.ensures.1) record { found = on_number _ (sym c.in_err-code.ensures) (λ h some. find_refuses h _ some _ _); claims = found_lanes _ _ refl }

pub returns : goal.returns
returns c =
    record { found = on_header _ (sym c.in_ok-code.ensures) c.find_accepted.ensures; claims = found_lanes _ _ refl }
