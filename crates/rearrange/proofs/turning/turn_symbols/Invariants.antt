-- `turn_symbols` meets its contract. The loop's invariant: the lanes below t are written, and the others are to come.
use mathlib.Core.List.{List}
use Prim.Native.Nat.{ℕ, ◌-◌, ◌*◌}
use Rattle.lists.specs.Rows.{rows_from}
use Rattle.lists.proofs.Fill.{Fills}
use Rattle.layout.specs.Layout.{row_after_row, lane_of}
use Rattle.layout.specs.Width.{symbols_of, bytes_of}
use Rattle.rearrange.proofs.turning.turn_symbols.Given as goal

-- a column's bytes
abbrev pub column : ℕ → ℕ → ℕ → List ℕ → ℕ → List ℕ
column w rows lanes table q = bytes_of w (lane_of row_after_row rows lanes q (symbols_of w table))

abbrev pub invariant-loop-t : goal.invariant-loop-t
invariant-loop-t l = Fills l.initial.out l.out (l.t * (l.rows * l.w.bytes)) (rows_from (column l.w.bytes l.rows l.lanes l.source) l.t (l.lanes - l.t)) (rows_from (column l.w.bytes l.rows l.lanes l.source) 0 l.lanes)
