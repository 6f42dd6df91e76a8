-- `fill_lane` meets its contract. The loop's invariant: the symbols of the rows below i are written.
use Prim.Native.Nat.{◌*◌}
use Rattle.lists.proofs.Fill.{Fills}
use Rattle.layout.specs.Layout.{row_after_row, lane_of}
use Rattle.layout.specs.Width.{symbols_of, bytes_of}
use Rattle.rearrange.proofs.Columns.{column_from}
use Rattle.rearrange.proofs.turning.fill_lane.Given as goal

abbrev pub invariant-loop-i : goal.invariant-loop-i
invariant-loop-i l = Fills l.initial.lane l.lane (l.i * l.w.bytes) (column_from l.w.bytes l.rows l.width l.t l.table l.i) (bytes_of l.w.bytes (lane_of row_after_row l.rows l.width l.t (symbols_of l.w.bytes l.table)))
