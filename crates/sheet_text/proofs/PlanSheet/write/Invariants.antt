-- `write` meets its contract. Invariant: the rows before r are written, and the others are to come.
use Prim.Native.Nat.{◌+◌, ◌*◌, ◌-◌, ◌≤◌}
use Rattle.lists.specs.Rows.{rows_from}
use Rattle.text.specs.Inner.Writer.{room}
use Rattle.text.proofs.Written.{Writing}
use Rattle.sheet_text.specs.Sheet.{row_line}
use Rattle.sheet_text.proofs.PlanSheet.write.Given as goal

abbrev pub invariant-loop-r : goal.invariant-loop-r
invariant-loop-r l = record {
  text : Writing l.initial.writer l.writer (rows_from (row_line l.self.plan) l.r (l.self.plan.k - l.r)) (rows_from (row_line l.self.plan) 0 l.self.plan.k);
  room : room l.initial.writer ≤ room l.writer + 1546 * l.r;
}
