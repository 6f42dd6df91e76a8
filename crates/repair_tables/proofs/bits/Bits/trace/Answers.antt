-- `Bits::trace` meets its contract. Invariant: the sum so far, and the terms that are left, make the trace.
use mathlib.Core.Path.{sym, ◌∙◌}
use Prim.Native.Nat.{◌/◌}
use Rattle.traces.specs.Traces.{trace_of}
use Rattle.traces.proofs.Bytes.{squarings_byte}
use Rattle.repair_tables.proofs.Steps.{trace_next, trace_end}
use Rattle.repair_tables.proofs.bits.Bits.trace.Goals as goal

pub loop-preserved : goal.loop-preserved
loop-preserved c =
    let l = c.loop in
    let b = c.count-b.result in
    (rw c.squarings-x.ensures (squarings_byte _ _ l.invariant.0), rw c.squarings-x.ensures (sym (trace_next (8 / b) l.counter b l.sum l.x c.loop-test.true) ∙ l.invariant.1))

pub returns : goal.returns
unfolding trace_of
returns c =
    let l = c.loop in
    let b = c.count-b.result in
    rw (← c.count-b.ensures) (sym (trace_end (8 / b) l.counter b l.sum l.x c.loop-test.false) ∙ l.invariant.1)
