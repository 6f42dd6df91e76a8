-- `replace` meets its contract.
use mathlib.Core.Path.{refl}
use native.Mathlib.Nat.{add-sub_cancel_left}
use Rattle.carrying.specs.Changing.{part_replaced}
use Rattle.carry.proofs.change.replace.Goals as goal

pub returns : goal.returns
unfolding part_replaced
returns c = rw (add-sub_cancel_left, c.copy.ensures) refl
