-- `fill_power_rows` meets its contract. Invariant: the rows of bytes below i are written.
use mathlib.Core.Path.{◌∙◌}
use Prim.Native.Nat.{◌+◌, ◌-◌, ◌*◌, ◌/◌, ◌%◌, ◌≤◌}
use native.Mathlib.Nat.{mul-le-mul, le_refl, add-sub_cancel_left}
use native.Mathlib.Omega.{arith}
use lib.ListN.{length}
use Rattle.lists.proofs.Rows.{rows_next, rows_end, row_after, row_inside, part_length}
use Rattle.lists.proofs.Fill.{fills_part, fills_all}
use Rattle.check_sums.proofs.OneLane.{byte_row, length_power_bytes, power_tile}
use Rattle.check_sums.proofs.lane.fill_power_rows.Goals as goal
use Rattle.check_sums.proofs.lane.fill_power_rows.Goals.{In-loop-i}

-- a row of bytes lies within the buffer
row_in : (c : In-loop-i) → c.loop-i.i * c.checks-checks.result + c.checks-checks.result ≤ length c.args.rows.now
row_in c =
    let width = c.width_of-w in
    rw (c.requires, ← width.ensures, ← c.checks-checks.ensures) (row_inside (width.result.bytes * c.args.code.header.n) c.loop-i.i c.checks-checks.result c.loop-i-test.true)

pub slice_bounds-fill_row-end : goal.slice_bounds-fill_row-end
slice_bounds-fill_row-end c = omega (arith, row_in (goal.at.slice_bounds-fill_row-end c).In-loop-i)

pub loop-i-preserved : goal.loop-i-preserved
loop-i-preserved c =
    let a = c.args in
    let w = c.width_of-w.result.bytes in
    let checks = a.code.header.n - a.code.header.k in
    let count = c.checks-checks.result in
    let row = row_in (goal.at.loop-i-preserved c).In-loop-i in
    let l = c.loop-i in rw (row_after, add-sub_cancel_left, c.fill_row.ensures, c.new-codec.ensures, part_length (l.i * count) count l.rows (omega (arith, l.invariant.long, row)), c.checks-checks.ensures)
    (fills_part (byte_row a.code.header w l.i) checks
    (rw (c.checks-checks.ensures, rows_next _ _ _ c.loop-i-test.true) at l.invariant)
    (length_power_bytes a.code.header checks w (l.i % w) (l.i / w))
    (rw c.checks-checks.ensures at row))

pub returns : goal.returns
returns c =
    let wide = c.width_of-w.ensures in
    fills_all (rw (rows_end _ _ _ c.loop-i-test.false) at c.loop-i.invariant)
    (rw (c.requires, ← wide, ← c.checks-checks.ensures) (mul-le-mul c.loop-i-test.false (le_refl _)))
    ∙ power_tile c.args.code.header _ wide
