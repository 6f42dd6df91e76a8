-- `negative` meets its contract.
use mathlib.Core.Path.{◌≡◌, sym, ap, ◌∙◌}
use Prim.Native.Nat.{ℕ, ◌-◌, ◌%◌}
use native.Mathlib.Nat.{mod_self, mod-eq_of_lt}
use native.Mathlib.Omega.{arith}
use Rattle.generator.specs.Shifts.{negative}
use Rattle.shifts.proofs.negative.Goals as goal

pub returns-then-x-eq0 : goal.returns-then-x-eq0
unfolding negative
returns-then-x-eq0 c =
    let n = c.args.n in
    let whole : n - c.args.x ≡ n = omega arith in
    (sym (ap (λ (y : ℕ). y % n) whole ∙ mod_self n), omega arith)

pub returns-else-x-eq0 : goal.returns-else-x-eq0
unfolding negative
returns-else-x-eq0 c = (sym (mod-eq_of_lt (omega arith)), omega arith)
