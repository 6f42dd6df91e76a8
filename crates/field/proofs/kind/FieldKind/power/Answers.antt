-- `FieldKind::power` meets its contract. The loop's invariant: r·base^k is a^e.
use mathlib.Core.Path.{sym, ◌∙◌}
use native.Mathlib.Omega.{arith}
use Rattle.field.proofs.Bounds.{one_below, mul_below}
use Rattle.field.proofs.Powers.{power_start, power_even, power_odd, power_end}
use Rattle.field.proofs.kind.FieldKind.power.Goals as goal
use Rattle.field.proofs.kind.FieldKind.power.Goals.{then-k-eq1, else-k-eq1}

pub loop-k-init : goal.loop-k-init
loop-k-init g c =
    let (fits, v, low) = c.requires in
    (low, one_below _ v, power_start _ v _ _ low)

pub loop-k-preserved : goal.loop-k-preserved
loop-k-preserved g c =
    let v = c.requires.1 in
    let inv = c.loop-k.invariant in
    let base = mul_below _ v inv.0 inv.0 in
    rw c.mul-base.ensures
    (elim c.if-k-eq1.branch [ then-k-eq1 w ↦ rw (w.r-is ∙ w.mul-r.ensures) (base, mul_below _ v inv.1 inv.0, power_odd _ v _ _ _ inv.1 inv.0 w.if-k-eq1.true ∙ inv.2) | else-k-eq1 w ↦ rw w.r-is (base, inv.1, power_even _ v _ _ _ inv.0 w.if-k-eq1.false ∙ inv.2) ])

pub returns : goal.returns
returns g c =
    let inv = c.loop-k.invariant in
    sym (power_end _ c.requires.1 _ _ _ inv.1 (omega arith)) ∙ inv.2
