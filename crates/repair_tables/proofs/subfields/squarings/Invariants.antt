-- `subfields::squarings` meets its contract. Invariant: so many squarings are left.
use mathlib.Core.Path.{◌≡◌}
use Prim.Native.Nat.{◌-◌, ◌<◌}
use Rattle.traces.specs.Traces.{squarings}
use Rattle.repair_tables.proofs.subfields.squarings.Given as goal

abbrev pub invariant-loop : goal.invariant-loop
invariant-loop l = (l.x < 256) × (squarings (l.count - l.counter) l.x ≡ squarings l.count l.a)
