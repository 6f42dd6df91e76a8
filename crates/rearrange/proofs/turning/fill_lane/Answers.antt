-- `fill_lane` meets its contract. The loop's invariant: the symbols of the rows below i are written.
use mathlib.Core.Path.{◌≡◌}
use mathlib.Core.Bool.{true}
use Prim.Native.Nat.{◌+◌, ◌*◌, ◌/◌, ◌≤◌, ◌<◌}
use native.Mathlib.Nat.{sub-zero, zero-mul, mul-le-mul, le_refl, add-sub_cancel_left}
use native.Mathlib.Omega.{arith}
use lib.ListN.{length}
use Rattle.lists.specs.Numbers.{all_below}
use Rattle.lists.proofs.Fill.{fills_part, fills_all}
use Rattle.lists.proofs.Numbers.{at_below}
use Rattle.lists.proofs.Rows.{row_after, row_inside, part_length}
use Rattle.layout.specs.Layout.{lane_of}
use Rattle.layout.specs.Width.{symbol_at, symbol_bytes}
use Rattle.layout.proofs.Widths.{length_symbol}
use Rattle.layout.proofs.Readings.{symbol_inside, symbol_below}
use Rattle.rearrange.proofs.Columns.{column_next, column_end, symbol_in}
use Rattle.rearrange.proofs.turning.fill_lane.Goals as goal
use Rattle.rearrange.proofs.turning.fill_lane.Goals.{In-loop-i}

-- the symbol is one of the table
read-in : (c : In-loop-i) → let a = c.args in c.loop-i.i * a.width + a.t < length a.table.now / a.w.bytes
read-in c =
    let a = c.args in
    symbol_in a.w.bytes a.rows a.width a.t a.table.now c.args.w.some c.requires.1 c.requires.0 c.loop-i.i c.loop-i-test.true

-- so its place is one of the table's too
read-place : (c : In-loop-i) → let a = c.args in c.loop-i.i * a.width + a.t < length a.table.now
read-place c =
    let a = c.args in
    let at = c.loop-i.i * a.width + a.t in
    let ends : at * a.w.bytes + a.w.bytes ≤ length a.table.now = symbol_inside a.w.bytes a.table.now at c.args.w.some (read-in c) in
    let least : at * 1 ≤ at * a.w.bytes = mul-le-mul (le_refl at) c.args.w.some in
    omega (arith, c.args.w.some)

-- its bytes lie within the lane
write-in : (c : In-loop-i) → let a = c.args in c.loop-i.i * a.w.bytes + a.w.bytes ≤ length a.lane.now
write-in c =
    rw c.requires.2 (row_inside c.args.rows c.loop-i.i c.args.w.bytes c.loop-i-test.true)

pub overflow_mul-i : goal.overflow_mul-i
overflow_mul-i c = omega (arith, read-place (goal.at.overflow_mul-i c).In-loop-i)

pub overflow_add-i : goal.overflow_add-i
overflow_add-i c = omega (arith, read-place (goal.at.overflow_add-i c).In-loop-i)

pub symbol_at-symbol-requires : goal.symbol_at-symbol-requires
symbol_at-symbol-requires c = read-in (goal.at.symbol_at-symbol-requires c).In-loop-i

pub write_symbol-requires : goal.write_symbol-requires
write_symbol-requires c =
    let a = c.args in
    let now = c.loop-i in
    let place = now.i * a.width + a.t in
    let low : all_below 256 a.table.now ≡ true = at_below 256 _ (λ i h. omega (arith, c.type_inv.table i)) in (
      rw c.symbol_at-symbol.ensures (symbol_below a.w.bytes a.table.now place (symbol_inside a.w.bytes a.table.now place c.args.w.some (read-in (goal.at.write_symbol-requires c).In-loop-i)) low),
      part_length (now.i * a.w.bytes) a.w.bytes now.lane (omega (arith, now.invariant.long, write-in (goal.at.write_symbol-requires c).In-loop-i)),
    )

pub loop-i-preserved : goal.loop-i-preserved
loop-i-preserved c =
    let a = c.args in
    let now = c.loop-i in
    let x = symbol_at a.w.bytes a.table.now (now.i * a.width + a.t) in rw (row_after, add-sub_cancel_left, c.write_symbol.ensures, c.symbol_at-symbol.ensures)
    (fills_part (symbol_bytes a.w.bytes x) a.w.bytes
    (rw (column_next a.w.bytes a.rows a.width a.t a.table.now c.args.w.some c.requires.1 c.requires.0 now.i c.loop-i-test.true) at now.invariant)
    (length_symbol a.w.bytes x)
    (write-in (goal.at.loop-i-preserved c).In-loop-i))

pub returns : goal.returns
returns c =
    fills_all (rw (column_end _ _ _ _ _ _ c.loop-i-test.false) at c.loop-i.invariant)
    (rw c.requires.2 (mul-le-mul c.loop-i-test.false (le_refl _)))
