-- `has_order` of bytes meets its contract. The loop's invariant: 2 to the exponent s is the power at which the search stands.
use mathlib.Core.Path.{◌∙◌}
use native.Mathlib.Nat.{mod-lt}
use native.Mathlib.Omega.{arith}
use Rattle.field.specs.Fields.{size_of}
use Rattle.field.proofs.Orders.{searched_start, searched_step, searched_stop, searched_end}
use Rattle.field.proofs.TableLaws.{zero_order, log_step, power_zero, one_power, one_test}
use Rattle.field.proofs.gf256.Gf256FieldKind.has_order.Goals as goal

pub returns-then-a-eq-ZERO : goal.returns-then-a-eq-ZERO
returns-then-a-eq-ZERO c = zero_order _ c.requires.2 c.if-a-eq-ZERO.true

pub logarithm-step-requires : goal.logarithm-step-requires
unfolding size_of
logarithm-step-requires c = (omega arith, c.requires.1)

pub loop-init : goal.loop-init
loop-init c =
    let log = c.logarithm-step.ensures in
    (rw log.inverts (searched_start 0 _ _ c.requires.2), log.below, log.below, log.inverts)

pub returns-then-s-eq0 : goal.returns-then-s-eq0
returns-then-s-eq0 c =
    searched_stop 0 _ _ _ _ c.requires.3 c.loop-test.true (power_zero _ c.if-s-eq0.true) c.loop.invariant.0

pub loop-preserved : goal.loop-preserved
loop-preserved c =
    let inv = c.loop.invariant in
    let next = searched_step 0 _ _ _ _ c.requires.3 c.loop-test.true (λ one. c.if-s-eq0.false (one_power c.args.tables.now _ inv.1 one)) inv.0 in (
      rw c.reduced-s.ensures (rw (log_step c.logarithm-step.result c.loop.s (omega arith) inv.3) at next),
      rw c.reduced-s.ensures (mod-lt _ (omega arith)),
      inv.2,
      inv.3,
    )

pub returns : goal.returns
returns c =
    one_test c.args.tables.now _ c.loop.invariant.1 ∙ searched_end 0 _ _ _ _ c.requires.3 c.loop-test.false c.loop.invariant.0
