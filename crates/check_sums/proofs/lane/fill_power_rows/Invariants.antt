-- `fill_power_rows` meets its contract. Invariant: the rows of bytes below i are written.
use Prim.Native.Nat.{◌-◌, ◌*◌}
use Rattle.lists.specs.Rows.{rows_from}
use Rattle.lists.proofs.Fill.{Fills}
use Rattle.check_sums.proofs.OneLane.{byte_row}
use Rattle.check_sums.proofs.lane.fill_power_rows.Given as goal

abbrev pub invariant-loop-i : goal.invariant-loop-i
invariant-loop-i l = Fills l.initial.rows l.rows (l.i * l.checks) (rows_from (byte_row l.fn.code.header l.w) l.i (l.count - l.i)) (rows_from (byte_row l.fn.code.header l.w) 0 l.count)
