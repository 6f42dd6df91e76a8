-- `store_rows` meets its contract: one row more is written up to the tile's last lane.
use Rattle.std.proofs.Common.{◌≡◌, ◌+◌, ◌-◌, ◌*◌, ◌≤◌, length, take, drop, sym, ◌∙◌, add-mul, mul_assoc, mul-le-mul, le_refl, arith}
use native.Mathlib.Nat.{add-sub_cancel_left}
use Rattle.lists.proofs.Rows.{part_length, get_d_part, row_inside}
use Rattle.layout.proofs.LaneParts.{lanes_long}
use Rattle.layout.proofs.Stretches.{stretch_end, stretch_row}
use Rattle.block_products.proofs.Writing.{row_sums}
use Rattle.block_products.proofs.job.Part.store_rows.Goals as goal
use Rattle.block_products.proofs.job.Part.store_rows.Goals.{In-loop-i, Start}

-- the lanes of a row
row_fits : (c : Start) → let p = c.args.self in p.first * p.job.w.bytes + p.count * p.job.w.bytes ≤ p.job.m.lanes * p.job.w.bytes
row_fits c = let p = c.args.self in let w = p.job.w.bytes in omega (arith, mul-le-mul p.inside (le_refl w), add-mul p.first p.count w)

out_long : (c : Start) → let j = c.args.self.job in length c.args.out.now ≡ j.m.outputs * (j.m.lanes * j.w.bytes)
out_long c = let j = c.args.self.job in c.requires.out_long ∙ sym (lanes_long j.w.bytes j.m.outputs j.m.lanes) ∙ mul_assoc j.m.outputs j.m.lanes j.w.bytes

-- its lanes lie in the buffer
out-in : (c : In-loop-i) → let p = c.args.self in let j = p.job in c.loop-i.i * (j.m.lanes * j.w.bytes) + p.first * j.w.bytes + p.count * j.w.bytes ≤ length c.loop-i.out
out-in c =
    let j = c.args.self.job in
    let start = (goal.at.In-loop-i c).Start in
    omega (arith, c.loop-i.auto.out, out_long start, row_fits start, row_inside j.m.outputs c.loop-i.i (j.m.lanes * j.w.bytes) c.loop-i-test.true)

pub slice_bounds-store_row-end-in-loop-i : goal.slice_bounds-store_row-end-in-loop-i
slice_bounds-store_row-end-in-loop-i c = out-in (goal.at.slice_bounds-store_row-end-in-loop-i c).In-loop-i

pub loop-i-preserved : goal.loop-i-preserved
loop-i-preserved c =
    let p = c.args.self in
    let j = p.job in
    let l = c.loop-i in
    let words = c.args.words.now in
    let start = l.i * (j.m.lanes * j.w.bytes) + p.first * j.w.bytes in
    let row = take (l.i * (j.w.bytes * 64) + j.w.bytes * 64 - l.i * (j.w.bytes * 64)) (drop (l.i * (j.w.bytes * 64)) words) in
    let after = c.store_row.new.out in
    let size : length after ≡ p.count * j.w.bytes = omega (arith, part_length start (p.count * j.w.bytes) l.out (out-in (goal.at.loop-i-preserved c).In-loop-i)) in
    λ f sums base.
    rw (add-sub_cancel_left start (p.count * j.w.bytes))
    (stretch_row (p.first * j.w.bytes) (p.count * j.w.bytes) l.i c.loop-i-test.true (row_fits (goal.at.loop-i-preserved c).Start) (l.invariant f sums base) after size
    (row_sums j.w.bytes j.m.outputs j.m.lanes p.first p.count f words sums p.inside j.w.some l.i c.loop-i-test.true row after (λ y inside. get_d_part (l.i * (j.w.bytes * 64)) (j.w.bytes * 64) words y inside) p.few c.store_row.ensures))

pub returns : goal.returns
returns c = λ f sums base.
    let p = c.args.self in
    rw (add-mul p.first p.count p.job.w.bytes) (stretch_end _ _ c.loop-i.i c.loop-i-test.false (c.loop-i.invariant f sums base))
