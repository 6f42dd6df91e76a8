-- `write` meets its contract. Invariant: the lines before the power's are written, and the others are to come.
use Prim.Native.Nat.{◌+◌, ◌*◌, ◌-◌, ◌≤◌}
use Rattle.lists.specs.Rows.{rows_from}
use Rattle.text.specs.Inner.Writer.{room}
use Rattle.text.proofs.Written.{Writing}
use Rattle.tables.specs.Tables.{power_lines}
use Rattle.tables.proofs.TwoPowers.{power_line}
use Rattle.tables.proofs.powers.Powers.write.Given as goal

abbrev pub invariant-loop-power : goal.invariant-loop-power
invariant-loop-power l = record {
  text : Writing l.initial.writer l.writer (rows_from power_line l.power-index (255 - l.power-index)) power_lines;
  room : room l.initial.writer ≤ room l.writer + 6 * l.power-index;
}
