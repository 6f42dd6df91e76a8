-- `leave` meets its contract.
use mathlib.Core.Path.{refl}
use Rattle.roster.specs.Events.{leaves}
use Rattle.roster_bytes.proofs.calls.leave.Goals as goal

pub returns : goal.returns
returns c = c.mark.ensures (leaves c.args.node) refl refl
