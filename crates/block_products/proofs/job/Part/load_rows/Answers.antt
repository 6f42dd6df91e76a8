-- `load_rows` meets its contract: one row of symbols more.
use Rattle.std.proofs.Common.{◌≡◌, ℕ, ◌+◌, ◌*◌, ◌≤◌, length, sym, ap, ◌∙◌, mul_assoc, mul_comm, arith}
use Rattle.lists.proofs.Images.{from_self}
use native.Mathlib.Nat.{add-sub_cancel_left}
use Rattle.lists.proofs.Rows.{part_length, row_inside, row_after}
use Rattle.layout.specs.Layout.{row_after_row}
use Rattle.layout.proofs.Buffers.{length_lane}
use Rattle.layout.proofs.Widths.{length_bytes}
use Rattle.tiles.proofs.Gathered.{tile_more, tile_lane}
use Rattle.block_products.proofs.Lanes.{row_part, row_loaded}
use Rattle.block_products.proofs.job.Part.load_rows.Invariants.{lane_bytes}
use Rattle.block_products.proofs.job.Part.load_rows.Goals as goal
use Rattle.block_products.proofs.job.Part.load_rows.Goals.{In-loop-r}

-- the row's symbols lie in the source
source_in : (c : In-loop-r) → let p = c.args.self in (c.loop-r.r * p.job.m.lanes + p.first) * p.job.w.bytes + p.count * p.job.w.bytes ≤ length p.job.source.now
source_in c = let p = c.args.self in let j = p.job in row_part j.w.bytes j.m.rows j.m.lanes j.source.now j.w.some j.source_long c.loop-r.r p.first p.count c.loop-r-test.true p.inside

-- its rows of bytes in the tile
tile-in : (c : In-loop-r) → let w = c.args.self.job.w.bytes in c.loop-r.r * (w * 64) + w * 64 ≤ length c.loop-r.tile
tile-in c =
    let j = c.args.self.job in
    let e : j.w.bytes * j.m.rows * 64 ≡ j.m.rows * (j.w.bytes * 64) = ap (λ (x : ℕ). x * 64) (mul_comm j.w.bytes j.m.rows) ∙ mul_assoc j.m.rows j.w.bytes 64 in
    omega (arith, e, c.loop-r.auto.tile, c.requires, row_inside j.m.rows c.loop-r.r (j.w.bytes * 64) c.loop-r-test.true)

pub slice_bounds-load_row-end : goal.slice_bounds-load_row-end
slice_bounds-load_row-end c = source_in (goal.at.slice_bounds-load_row-end c).In-loop-r

pub loop-r-preserved : goal.loop-r-preserved
loop-r-preserved c =
    let p = c.args.self in
    let j = p.job in
    let l = c.loop-r in
    let row = c.loop-r-test.true in
    let after = c.load_row.new.rows in
    let within = tile-in (goal.at.loop-r-preserved c).In-loop-r in
    let at : l.r * (j.w.bytes * 64) ≡ l.r * j.w.bytes * 64 = sym (mul_assoc l.r j.w.bytes 64) in
    let fits : l.r * j.w.bytes * 64 + j.w.bytes * 64 ≤ length l.tile = rw (← at) within in
    let size : length after ≡ j.w.bytes * 64 = omega (arith, part_length (l.r * (j.w.bytes * 64)) (j.w.bytes * 64) l.tile within) in
    rw (at, add-sub_cancel_left (l.r * j.w.bytes * 64) (j.w.bytes * 64), row_after l.r j.w.bytes)
    (tile_more (j.w.bytes * j.m.rows) (l.r * j.w.bytes) j.w.bytes p.count _ l.tile after (j.w.bytes * 64) size fits p.few l.invariant
    (row_loaded j.w.bytes j.m.rows j.m.lanes j.source.now j.w.some j.source_long j.bytes l.r p.first p.count row p.inside p.few after c.load_row.ensures))

pub returns : goal.returns
returns c =
    λ t lane.
    let p = c.args.self in
    let j = p.job in
    let l = c.loop-r in
    let all : l.r ≡ j.m.rows = omega arith in
    let bytes = lane_bytes j.w.bytes j.m.rows j.m.lanes p.first j.source.now t in
    let long : length bytes ≡ j.w.bytes * j.m.rows = length_bytes j.w.bytes _ ∙ ap (λ (x : ℕ). x * j.w.bytes) (length_lane row_after_row j.m.rows j.m.lanes (p.first + t) _) ∙ mul_comm j.m.rows j.w.bytes in
    tile_lane (j.w.bytes * j.m.rows) (l.r * j.w.bytes) p.count _ l.tile l.invariant (rw all (omega (arith, mul_comm j.w.bytes j.m.rows))) t lane ∙ from_self bytes (j.w.bytes * j.m.rows) long
