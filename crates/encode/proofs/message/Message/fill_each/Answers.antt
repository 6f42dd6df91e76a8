-- `fill_each` meets its contract. The loop's invariant: the lanes below t are filled, and the others are to come.
use mathlib.Core.Path.{◌≡◌, ap, ◌∙◌}
use Prim.Native.Nat.{ℕ, ◌+◌, ◌*◌, ◌≤◌}
use native.Mathlib.Nat.{mul_comm, mul-le-mul, le_refl, add-sub_cancel_left}
use native.Mathlib.Omega.{arith}
use lib.ListN.{length, take}
use Rattle.lists.proofs.Padding.{take_padded}
use Rattle.lists.proofs.Rows.{rows_next, rows_end, row_after, row_inside, part_length}
use Rattle.lists.proofs.Fill.{fills_part, fills_all}
use Rattle.layout.specs.Layout.{row_after_row, lane_after_lane, lane_of}
use Rattle.layout.specs.Width.{bytes_of}
use Rattle.layout.proofs.Buffers.{length_lane, lane_symbols}
use Rattle.layout.proofs.LaneParts.{bytes_rows}
use Rattle.layout.proofs.Lawful.{by_row, by_lane}
use Rattle.layout.proofs.Places.{lanes_whole}
use Rattle.layout.proofs.Widths.{length_bytes}
use Rattle.generator.specs.Records.{size}
use Rattle.blocks.specs.Blocks.{shares_of}
use Rattle.blocks.proofs.Shares.{length_shares, lane_encodes}
use Rattle.encode.specs.Inner.Encoded.{record_header, message_symbols}
use Rattle.encode.proofs.message.Message.fill_each.Goals as goal
use Rattle.encode.proofs.message.Message.fill_each.Goals.{After-lane_symbols-symbols, In-loop-t}

-- a lane lies within the buffer
lane_in : (c : In-loop-t) → let m = c.args.self in let size = m.width.bytes * (record_header m).n in c.loop-t.t * size + size ≤ length c.args.out.now
lane_in c =
    let m = c.args.self in
    let size = m.width.bytes * (record_header m).n in omega (arith, c.requires, mul_comm size m.lanes, row_inside m.lanes c.loop-t.t size c.loop-t-test.true)

-- the lane's symbols as they are lent
taken : (c : After-lane_symbols-symbols) → let m = c.args.self in let k = (record_header m).k in take k c.lane_symbols-symbols.result ≡ lane_of row_after_row k m.lanes c.loop-t.t (message_symbols m)
taken c = rw c.lane_symbols-symbols.ensures (take_padded 255 _ _ (length_lane row_after_row _ _ _ _))

pub fill_lane-requires : goal.fill_lane-requires
fill_lane-requires c =
    let m = c.args.self in
    let h = record_header m in
    let l = c.loop-t in
    let rows = m.rows.symbol_rows in
    rw (taken (goal.at.fill_lane-requires c).After-lane_symbols-symbols)
    (length_lane row_after_row h.k m.lanes l.t (message_symbols m), lane_symbols by_row h.k m.lanes (size h) l.t (message_symbols m) c.loop-t-test.true rows.long rows.symbols, part_length (l.t * (m.width.bytes * h.n)) (m.width.bytes * h.n) l.out (omega (arith, l.invariant.long, lane_in (goal.at.fill_lane-requires c).In-loop-t)))

pub loop-t-preserved : goal.loop-t-preserved
loop-t-preserved c =
    let m = c.args.self in
    let h = record_header m in
    let l = c.loop-t in
    let lane = lane_of lane_after_lane h.n m.lanes l.t (shares_of lane_after_lane h m.lanes (message_symbols m)) in
    rw (row_after, add-sub_cancel_left, c.fill_lane.ensures, taken (goal.at.loop-t-preserved c).After-lane_symbols-symbols, ← lane_encodes h m.lanes (message_symbols m) by_lane l.t c.loop-t-test.true)
    (fills_part (bytes_of m.width.bytes lane) (m.width.bytes * h.n) (rw (rows_next _ _ _ c.loop-t-test.true) at l.invariant) (length_bytes m.width.bytes lane ∙ ap (λ (x : ℕ). x * m.width.bytes) (length_lane lane_after_lane h.n m.lanes l.t _) ∙ mul_comm h.n m.width.bytes) (lane_in (goal.at.loop-t-preserved c).In-loop-t))

pub returns : goal.returns
returns c =
    let m = c.args.self in
    let h = record_header m in
    let shares = shares_of lane_after_lane h m.lanes (message_symbols m) in
    fills_all (rw (rows_end _ _ _ c.loop-t-test.false) at c.loop-t.invariant) (rw (c.requires, mul_comm (m.width.bytes * h.n) m.lanes) (mul-le-mul c.loop-t-test.false (le_refl _)))
    ∙ bytes_rows m.width.bytes (λ t. lane_of lane_after_lane h.n m.lanes t shares) 0 m.lanes
    ∙ ap (bytes_of m.width.bytes) (lanes_whole h.n m.lanes shares (length_shares h m.lanes (message_symbols m) lane_after_lane))
