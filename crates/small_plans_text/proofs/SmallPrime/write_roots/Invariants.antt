-- `write_roots` meets its contract. Invariant: the lines of the roots below `root` are written, and the others are to come.
use Prim.Native.Nat.{◌+◌, ◌*◌, ◌-◌, ◌≤◌}
use Rattle.lists.specs.Rows.{rows_from}
use Rattle.text.specs.Inner.Writer.{room}
use Rattle.text.proofs.Written.{Writing}
use Rattle.small_plans_text.specs.SmallPlans.{root_lines}
use Rattle.small_plans_text.proofs.SmallPrime.write_roots.Given as goal

abbrev pub invariant-loop-root : goal.invariant-loop-root
invariant-loop-root l = record {
  text : Writing l.initial.writer l.writer (rows_from (root_lines l.p) l.root (l.p - l.root)) (rows_from (root_lines l.p) 0 (l.p - 0));
  room : room l.initial.writer ≤ room l.writer + 558 * l.root;
}
