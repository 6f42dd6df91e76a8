-- `Digits::pack` meets its contract.
use mathlib.Core.Path.{◌≡◌, sym, ◌∙◌}
use Prim.Native.Nat.{◌≤◌, ◌+◌, ◌-◌, ◌*◌, ◌/◌, ◌%◌, ◌^◌}
use native.Mathlib.Nat.{sub-zero, zero-mul, mul-le-mul, le_refl, add-sub_cancel_left}
use native.Mathlib.Omega.{arith}
use lib.ListN.{length, get_or, take, drop}
use Rattle.lists.proofs.Rows.{rows_next, rows_end, row_after, row_inside, part_length}
use Rattle.lists.proofs.Fill.{fills_start, fills_part, fills_all}
use Rattle.repair.specs.Packing.{packed_size, plane, planes}
use Rattle.repair.proofs.Digits.{length_plane}
use Rattle.repair.proofs.Adding.{plane_table}
use Rattle.repair.proofs.packing.Digits.pack.Goals as goal
use Rattle.repair.proofs.packing.Digits.pack.Goals.{In-loop-e}

-- the buffer holds all planes
long : (c : In-loop-e) → length c.args.out.now ≡ c.count-count.result * c.plane_size-size.result
unfolding packed_size
long c = rw (c.count-count.ensures, c.plane_size-size.ensures) c.requires.1

-- a plane lies within it
row_in : (c : In-loop-e) → c.loop-e.e * c.plane_size-size.result + c.plane_size-size.result ≤ length c.args.out.now
row_in c = rw (long c) (row_inside c.count-count.result c.loop-e.e c.plane_size-size.result c.loop-e-test.true)

pub loop-e-init : goal.loop-e-init
unfolding planes
loop-e-init c = rw (sub-zero, zero-mul) (fills_start _ _)

pub slice_bounds-pack_plane-end : goal.slice_bounds-pack_plane-end
slice_bounds-pack_plane-end c = omega (arith, c.loop-e.invariant.long, row_in (goal.at.slice_bounds-pack_plane-end c).In-loop-e)

pub pack_plane-requires : goal.pack_plane-requires
pack_plane-requires c =
    let l = c.loop-e in
    let size = c.plane_size-size.result in
    let part = part_length (l.e * size) size l.out (omega (arith, l.invariant.long, row_in (goal.at.pack_plane-requires c).In-loop-e)) in
    (c.requires.0, part ∙ c.plane_size-size.ensures)

pub loop-e-preserved : goal.loop-e-preserved
loop-e-preserved c =
    let l = c.loop-e in
    let a = c.args in
    let size = c.plane_size-size.result in
    let part = part_length (l.e * size) size l.out (omega (arith, l.invariant.long, row_in (goal.at.loop-e-preserved c).In-loop-e)) in
    let whole = plane_table l.e a.self.table.now a.self.share.now (take (l.e * size + size - l.e * size) (drop (l.e * size) l.out)) (part ∙ c.plane_size-size.ensures) in rw (row_after, add-sub_cancel_left, c.pack_plane.ensures ∙ whole)
    (fills_part (plane (length a.self.share.now) (λ i. get_or a.self.table.now (get_or a.self.share.now i 0) 0 / 2 ^ l.e % 2)) size (rw (rows_next _ c.count-count.result l.e c.loop-e-test.true) at l.invariant) (length_plane _ _ ∙ sym c.plane_size-size.ensures) (row_in (goal.at.loop-e-preserved c).In-loop-e))

pub returns : goal.returns
unfolding packed_size
returns c =
    let count = c.count-count.ensures in
    rw count at (fills_all (rw (rows_end _ c.count-count.result _ c.loop-e-test.false) at c.loop-e.invariant) (rw (c.requires.1, ← count, ← c.plane_size-size.ensures) (mul-le-mul c.loop-e-test.false (le_refl _))))
