-- `rejoin` meets its contract.
use mathlib.Core.Path.{refl}
use Rattle.roster.specs.Events as events
use Rattle.roster_bytes.proofs.calls.rejoin.Goals as goal

pub returns : goal.returns
returns c = c.mark.ensures (events.returns c.args.node) refl refl
