-- `write_logarithms` meets its contract. Invariant: the lines before that of a are written, and the others are to come.
use Prim.Native.Nat.{◌+◌, ◌*◌, ◌-◌, ◌≤◌}
use Rattle.lists.specs.Rows.{rows_from}
use Rattle.text.specs.Inner.Writer.{room}
use Rattle.text.proofs.Written.{Writing}
use Rattle.tables.specs.Tables.{number_line, logarithm_of, logarithm_lines}
use Rattle.tables.proofs.logarithms.write_logarithms.Given as goal

abbrev pub invariant-loop-a : goal.invariant-loop-a
invariant-loop-a l = record {
  text : Writing l.initial.writer l.writer (rows_from (λ a. number_line (logarithm_of a)) l.a (256 - l.a)) logarithm_lines;
  room : room l.initial.writer + 6 ≤ room l.writer + 6 * l.a;
}
