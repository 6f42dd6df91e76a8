-- `locate` meets its contract. Invariant: the arrays hold the lists of the algorithm after r steps.
use mathlib.Core.Path.{◌≡◌, sym, ◌∙◌}
use Prim.Native.Nat.{◌+◌, ◌-◌, ◌≤◌}
use native.Mathlib.Omega.{arith}
use Rattle.lists.specs.Padded.{zeros}
use Rattle.lists.proofs.Fill.{length_zeros}
use Rattle.field.specs.Kinds.{modulus}
use Rattle.field.proofs.KindLaws.{usable_field}
use Rattle.decode.proofs.Arrays.{length_filled}
use Rattle.decode.proofs.Steps.{held_start, held_kept, held_mended, held_grown, held_now, held_past}
use Rattle.decode.proofs.locator.locate.Goals as goal
use Rattle.decode.proofs.locator.locate.Goals.{In-loop-r}

-- in the loop at least one of the 2t steps, 254 at most, is left
steps : (c : In-loop-r) → c.loop-r.r + 1 ≤ 254
steps c = omega (arith, c.requires.0, c.loop-r-test.true)

-- the next step
next : (c : In-loop-r) → c.loop-r.r - c.loop-r.l + 1 ≡ c.loop-r.r + 1 - c.loop-r.l
next c = omega (arith, c.loop-r.invariant.low)

pub loop-r-init : goal.loop-r-init
unfolding zeros
loop-r-init c = record { low = omega arith; long_w = length_zeros 255; long_v = length_zeros 255; held = held_start (modulus c.args.field.field) (usable_field _ c.args.field.usable) c.args.s.now 254 255 }

pub loop-r-preserved-then-d-eq-ZERO : goal.loop-r-preserved-then-d-eq-ZERO
loop-r-preserved-then-d-eq-ZERO c =
    let i = c.args in
    let l = c.loop-r in
    let kept = held_kept (modulus i.field.field) (usable_field _ i.field.usable) i.s.now c.requires.1 l.w l.v l.l (l.r - l.l) l.invariant.held (sym c.discrepancy-d.ensures.is ∙ c.if-d-eq-ZERO.true) in
    record { low = omega (arith, l.invariant.low); long_w = l.invariant.long_w; long_v = l.invariant.long_v; held = rw (next (goal.at.loop-r-preserved-then-d-eq-ZERO c).In-loop-r) at kept }

pub loop-r-preserved-then-q-l : goal.loop-r-preserved-then-q-l
loop-r-preserved-then-q-l c =
    let i = c.args in
    let l = c.loop-r in
    let d = c.discrepancy-d in
    let turn = (goal.at.loop-r-preserved-then-q-l c).In-loop-r in
    let mended = held_mended (modulus i.field.field) (usable_field _ i.field.usable) i.s.now c.requires.1 l.w l.v l.l (l.r - l.l) l.invariant.held c.amended-u.result d.result d.ensures.is c.amended-u.ensures c.if-q-l.true in
    record {
      low = omega (arith, l.invariant.low);
      long_w = rw c.amended-u.ensures (length_filled 255 (l.l + 1) _ (omega (arith, steps turn, l.invariant.low)));
      long_v = l.invariant.long_v;
      held = rw (next turn) at mended;
    }

pub loop-r-preserved : goal.loop-r-preserved
loop-r-preserved c =
    let i = c.args in
    let l = c.loop-r in
    let u = c.amended-u-in-loop-r in
    let e = c.inverse-e in
    let d = c.discrepancy-d in
    let turn = (goal.at.loop-r-preserved c).In-loop-r in
    let back : l.l ≡ l.r + 1 - (l.r - l.l + 1) = omega (arith, l.invariant.low) in
    let grown =
    held_grown (modulus i.field.field) (usable_field _ i.field.usable) i.s.now c.requires.1 l.w l.v l.l (l.r - l.l) l.invariant.held u.result c.scaled-z.result d.result e.result d.ensures.is c.if-d-eq-ZERO.false e.ensures.is u.ensures c.scaled-z.ensures c.if-q-l.false in
    record {
      low = omega (arith, l.invariant.low);
      long_w = rw u.ensures (length_filled 255 (l.r - l.l + 2) _ (omega (arith, steps turn)));
      long_v = rw c.scaled-z.ensures (length_filled 255 (l.l + 1) _ (omega (arith, steps turn, l.invariant.low)));
      held = rw (← back) grown;
    }

pub returns-then-l-t : goal.returns-then-l-t
returns-then-l-t c =
    let i = c.args in
    let l = c.loop-r in
    held_now (modulus i.field.field) (usable_field _ i.field.usable) i.s.now c.requires.1 i.t l.w l.v l.l (l.r - l.l) l.invariant.held (omega (arith, l.invariant.low, l.auto.r-end, c.loop-r-test.false)) l.invariant.long_w c.if-l-t.true

pub returns-else-l-t : goal.returns-else-l-t
returns-else-l-t c =
    let i = c.args in
    let l = c.loop-r in
    held_past (modulus i.field.field) (usable_field _ i.field.usable) i.s.now c.requires.1 i.t l.w l.v l.l (l.r - l.l) l.invariant.held (omega (arith, l.invariant.low, l.auto.r-end, c.loop-r-test.false)) l.invariant.long_v c.if-l-t.false
