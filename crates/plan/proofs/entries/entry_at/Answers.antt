-- `entry_at` meets its contract: one subtraction at most.
use mathlib.Core.Path.{ap}
use Prim.Native.Nat.{ℕ}
use lib.ListN.{get_or}
use Rattle.field.proofs.Modular.{mod_none}
use Rattle.plan.proofs.entries.entry_at.Goals as goal

pub returns-then-i-n : goal.returns-then-i-n
returns-then-i-n c =
    let a = c.args in
    ap (λ (i : ℕ). get_or a.base.now i 0) (mod_none c.if-i-n.true)
