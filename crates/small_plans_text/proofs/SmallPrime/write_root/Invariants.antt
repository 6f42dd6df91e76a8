-- `write_root` meets its contract. Invariant: the lines before k are written, and the others are to come.
use Prim.Native.Nat.{◌+◌, ◌*◌, ◌-◌, ◌≤◌}
use Rattle.lists.specs.Rows.{rows_from}
use Rattle.text.specs.Inner.Writer.{room}
use Rattle.text.proofs.Written.{Writing}
use Rattle.small_plans_text.proofs.Lines.{line_with}
use Rattle.small_plans_text.proofs.SmallPrime.write_root.Given as goal

abbrev pub invariant-loop-k : goal.invariant-loop-k
invariant-loop-k l = record {
  text : Writing l.initial.writer l.writer (rows_from (line_with l.p l.root l.n) l.k (l.n + 1 - l.k)) (rows_from (line_with l.p l.root l.n) 1 (l.n + 1 - 1));
  room : room l.initial.writer + 18 ≤ room l.writer + 18 * l.k;
}
