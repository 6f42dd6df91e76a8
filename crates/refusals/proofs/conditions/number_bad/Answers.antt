-- `number_bad` meets its contract.
use mathlib.Core.Path.{refl}
use Rattle.refusals.specs.Conditions.{number_bad}
use Rattle.refusals.proofs.conditions.number_bad.Goals as goal

pub returns : goal.returns
unfolding number_bad
returns c = refl
