-- `length_bad` meets its contract.
use mathlib.Core.Path.{refl}
use Rattle.refusals.specs.Conditions.{length_bad}
use Rattle.refusals.proofs.conditions.length_bad.Goals as goal

pub returns : goal.returns
unfolding length_bad
returns c = refl
