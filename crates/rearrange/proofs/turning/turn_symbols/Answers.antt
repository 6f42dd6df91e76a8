-- `turn_symbols` meets its contract. The loop's invariant: the lanes below t are written, and the others are to come.
use mathlib.Core.Path.{◌≡◌, sym, ap, ◌∙◌}
use Prim.Native.Nat.{ℕ, ◌+◌, ◌*◌, ◌≤◌}
use native.Mathlib.Nat.{sub-zero, zero-mul, mul_comm, mul_assoc, mul-le-mul, le_refl, add-sub_cancel_left}
use native.Mathlib.Omega.{arith}
use lib.ListN.{length}
use Rattle.lists.proofs.Rows.{rows_next, rows_end, row_after, row_inside, part_length}
use Rattle.lists.proofs.Fill.{fills_start, fills_part, fills_all}
use Rattle.layout.specs.Layout.{row_after_row, held, lane_of, rearranged}
use Rattle.layout.specs.Width.{symbols_of, bytes_of}
use Rattle.layout.proofs.LaneParts.{bytes_rows}
use Rattle.layout.proofs.Places.{buffer_by_lane}
use Rattle.rearrange.proofs.Columns.{length_column}
use Rattle.rearrange.proofs.turning.turn_symbols.Invariants.{column}
use Rattle.rearrange.proofs.turning.turn_symbols.Goals as goal
use Rattle.rearrange.proofs.turning.turn_symbols.Goals.{In-loop-t}

-- the bytes of all lanes
all_bytes : (w rows lanes : ℕ) → rows * lanes * w ≡ lanes * (rows * w)
all_bytes w rows lanes = ap (λ (x : ℕ). x * w) (mul_comm rows lanes) ∙ mul_assoc lanes rows w

-- a lane lies within the buffer
lane_in : (c : In-loop-t) → let a = c.args in c.loop-t.t * (a.rows * a.w.bytes) + a.rows * a.w.bytes ≤ length a.out.now
lane_in c =
    let a = c.args in
    rw (c.requires.1, all_bytes a.w.bytes a.rows a.lanes) (row_inside a.lanes c.loop-t.t (a.rows * a.w.bytes) c.loop-t-test.true)

pub fill_lane-requires : goal.fill_lane-requires
fill_lane-requires c =
    let a = c.args in
    let now = c.loop-t in
    (c.loop-t-test.true, c.requires.0, part_length (now.t * (a.rows * a.w.bytes)) (a.rows * a.w.bytes) now.out (omega (arith, now.invariant.long, lane_in (goal.at.fill_lane-requires c).In-loop-t)))

pub loop-t-preserved : goal.loop-t-preserved
loop-t-preserved c =
    let a = c.args in
    let now = c.loop-t in rw (row_after, add-sub_cancel_left, c.fill_lane.ensures)
    (fills_part (column a.w.bytes a.rows a.lanes a.source.now now.t) (a.rows * a.w.bytes)
    (rw (rows_next _ _ _ c.loop-t-test.true) at now.invariant)
    (length_column a.w.bytes a.rows a.lanes now.t a.source.now)
    (lane_in (goal.at.loop-t-preserved c).In-loop-t))

pub returns : goal.returns
unfolding rearranged lane_of
returns c =
    let a = c.args in
    fills_all (rw (rows_end _ _ _ c.loop-t-test.false) at c.loop-t.invariant)
    (rw (c.requires.1, all_bytes a.w.bytes a.rows a.lanes) (mul-le-mul c.loop-t-test.false (le_refl _)))
    ∙ bytes_rows a.w.bytes (λ q. lane_of row_after_row a.rows a.lanes q (symbols_of a.w.bytes a.source.now)) 0 a.lanes
    ∙ sym (ap (bytes_of a.w.bytes) (buffer_by_lane a.rows a.lanes (held row_after_row a.rows a.lanes (symbols_of a.w.bytes a.source.now))))
