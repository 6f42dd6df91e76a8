-- `nodes_bad` meets its contract.
use mathlib.Core.Path.{ap}
use mathlib.Core.Bool.{not}
use Rattle.refusals.specs.Conditions.{nodes_bad}
use Rattle.refusals.proofs.nodes.nodes_bad.Goals as goal

pub returns : goal.returns
unfolding nodes_bad
returns c = ap not c.all_below.ensures
