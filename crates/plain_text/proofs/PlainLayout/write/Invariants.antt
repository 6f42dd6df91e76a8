-- `write` meets its contract. Invariant: the lines of the nodes before j are written, and the others are to come.
use Prim.Native.Nat.{◌+◌, ◌*◌, ◌-◌, ◌≤◌}
use Rattle.lists.specs.Rows.{rows_from}
use Rattle.text.specs.Inner.Writer.{room}
use Rattle.text.proofs.Written.{Writing}
use Rattle.plain_text.specs.Plain.{node_line}
use Rattle.plain_text.proofs.PlainLayout.write.Given as goal

abbrev pub invariant-loop-j : goal.invariant-loop-j
invariant-loop-j l = record {
  text : Writing l.initial.writer l.writer (rows_from (node_line l.self.code.header) l.j (l.n - l.j)) (rows_from (node_line l.self.code.header) 0 l.n);
  room : room l.initial.writer ≤ room l.writer + 1539 * l.j;
}
