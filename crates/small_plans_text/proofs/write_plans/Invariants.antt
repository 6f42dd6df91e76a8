-- `write_plans` meets its contract. Invariant: the lines of the primes below p are written, and the others are to come.
use Prim.Native.Nat.{◌+◌, ◌*◌, ◌-◌, ◌≤◌}
use Rattle.lists.specs.Rows.{rows_from}
use Rattle.text.specs.Inner.Writer.{room}
use Rattle.text.proofs.Written.{Writing}
use Rattle.small_plans_text.specs.SmallPlans.{field_lines}
use Rattle.small_plans_text.proofs.write_plans.Given as goal

abbrev pub invariant-loop-p : goal.invariant-loop-p
invariant-loop-p l = record {
  text : Writing l.initial.writer l.writer (rows_from field_lines l.p (32 - l.p)) (rows_from field_lines 3 (32 - 3));
  room : room l.initial.writer + 51894 ≤ room l.writer + 17298 * l.p;
}
