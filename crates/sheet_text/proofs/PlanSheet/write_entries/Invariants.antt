-- `write_entries` meets its contract. Invariant: the entries before j are written; the others and the line feed are to come.
use Prim.Native.Nat.{◌+◌, ◌*◌, ◌-◌, ◌≤◌}
use Rattle.lists.specs.Rows.{from}
use Rattle.plan.specs.Plans.{entry_in}
use Rattle.text.specs.Text.{fields}
use Rattle.text.specs.Inner.Writer.{room}
use Rattle.text.proofs.Written.{Writing}
use Rattle.sheet_text.proofs.PlanSheet.write_entries.Given as goal

abbrev pub invariant-loop-j : goal.invariant-loop-j
invariant-loop-j l = record {
  text : Writing l.initial.writer l.writer (fields (from (entry_in l.self.plan l.r) l.j (l.self.plan.n - l.j))) (fields (from (entry_in l.self.plan l.r) 0 l.self.plan.n));
  room : room l.initial.writer ≤ room l.writer + 6 * l.j;
}
