-- `write_counts` meets its contract. Invariant: the lines before w are written, and the others are to come.
use mathlib.Core.List.{List}
use Prim.Native.Nat.{ℕ, ◌+◌, ◌*◌, ◌-◌, ◌≤◌}
use lib.ListN.{length, get_or}
use Rattle.lists.specs.Rows.{rows_from}
use Rattle.text.specs.Inner.Writer.{room}
use Rattle.text.proofs.Written.{Writing}
use Rattle.weights_text.specs.Weights.{count_line, count_lines}
use Rattle.weights_text.proofs.write_counts.Given as goal

-- the line of the weight w
abbrev pub line_at : List ℕ → ℕ → List ℕ
line_at counts w = count_line w (get_or counts w 0)

abbrev pub invariant-loop-w : goal.invariant-loop-w
invariant-loop-w l = record {
  text : Writing l.initial.writer l.writer (rows_from (line_at l.counts) l.w (length l.counts - l.w)) (count_lines l.counts);
  room : room l.initial.writer ≤ room l.writer + 12 * l.w;
}
