-- `Bits::trace` meets its contract. Invariant: the sum so far, and the terms that are left, make the trace.
use mathlib.Core.Path.{◌≡◌}
use Prim.Native.Nat.{◌-◌, ◌<◌}
use lib.Bits.{bit_xor}
use Rattle.traces.specs.Traces.{trace_from}
use Rattle.repair_tables.proofs.bits.Bits.trace.Given as goal

abbrev pub invariant-loop : goal.invariant-loop
invariant-loop l = (l.x < 256) × (bit_xor l.sum (trace_from (l.terms - l.counter) l.b l.x) ≡ trace_from l.terms l.b l.a)
