-- `fill_share` meets its contract. The loop's invariant: the sums of the lanes below `first` are written.
use mathlib.Core.Path.{sym, ◌∙◌}
use Prim.Native.Nat.{◌+◌, ◌*◌, ◌≤◌}
use native.Mathlib.Nat.{add-mul, mul_comm, mul-le-mul, le_refl}
use native.Mathlib.Omega.{arith}
use lib.ListN.{length, length-append, length-drop}
use lib.Seq.{length-take-le}
use Rattle.layout.specs.Width.{symbols_of}
use Rattle.generator.specs.Records.{modulus_of}
use Rattle.tiles.proofs.Parts.{fills_stretch}
use Rattle.recover.specs.Inner.OneRow.{sum_bytes}
use Rattle.recover.proofs.Tiles.{length_sums, combined_part}
use Rattle.recover.proofs.shares.Weighted.fill_share.Goals as goal
use Rattle.recover.proofs.shares.Weighted.fill_share.Goals.{After-tile_lanes-count}

-- the next lanes lie among the lanes, and their symbols within the scratch
next : (c : After-tile_lanes-count) → c.loop-first.first + c.tile_lanes-count.result ≤ c.args.self.lanes
next c = omega (arith, c.tile_lanes-count.ensures.1, c.loop-first-test.true)

symbols-in : (c : After-tile_lanes-count) → let v = c.args.self in v.width.bytes * v.code.header.k * c.tile_lanes-count.result ≤ length c.loop-first.tile
symbols-in c = c.tile_lanes-count.ensures.2

-- and their sums within the buffer
sums-in : (c : After-tile_lanes-count) → let w = c.args.self.width.bytes in c.loop-first.first * w + c.tile_lanes-count.result * w ≤ length c.args.out.now
sums-in c =
    let v = c.args.self in
    rw (c.requires.1 ∙ mul_comm v.width.bytes v.lanes, ← add-mul c.loop-first.first c.tile_lanes-count.result v.width.bytes) (mul-le-mul (next c) (le_refl v.width.bytes))

pub slice_bounds-fill_tile-end-in-loop-first-2 : goal.slice_bounds-fill_tile-end-in-loop-first-2
slice_bounds-fill_tile-end-in-loop-first-2 c = omega (arith, sums-in (goal.at.slice_bounds-fill_tile-end-in-loop-first-2 c).After-tile_lanes-count, c.loop-first.invariant.2.long)

pub loop-first-preserved : goal.loop-first-preserved
loop-first-preserved c =
    let v = c.args.self in
    let h = v.code.header in
    let w = v.width.bytes in
    let now = c.loop-first in
    let count = c.tile_lanes-count.result in
    let inside = next (goal.at.loop-first-preserved c).After-tile_lanes-count in
    let symbols = symbols-in (goal.at.loop-first-preserved c).After-tile_lanes-count in
    let xs = symbols_of w v.shares.now in
    let whole = sum_bytes h w v.lanes v.weights.now v.shares.now in (
      inside,
      simp (length-append, length-drop) (omega (arith, now.invariant.1, symbols, length-take-le (w * h.k * count) now.tile symbols)),
      rw (add-mul now.first count w)
          (fills_stretch whole (now.first * w) _ (count * w) now.invariant.2 (c.fill_tile.ensures ∙ combined_part (modulus_of h) h.k v.lanes xs now.first count w v.weights.now inside) (length_sums h w v.lanes v.weights.now xs ∙ sym c.requires.1) (sums-in (goal.at.loop-first-preserved c).After-tile_lanes-count)),
    )
