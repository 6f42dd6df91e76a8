-- `fill_tile` meets its contract: the lanes are loaded, and the rows of the product stored.
use Rattle.std.proofs.Common.{◌≡◌, ℕ, ◌*◌, ◌≤◌, length, sym, ap, ◌∙◌, mul_comm, mul_assoc, arith, length-take-le}
use Rattle.field.specs.Kinds.{modulus}
use Rattle.block_products.proofs.Lanes.{product_lane, groups_inside, rows_inside, rows_grouped}
use Rattle.block_products.proofs.job.Part.fill_tile.Goals as goal
use Rattle.block_products.proofs.job.Part.fill_tile.Goals.{After-load}

-- the groups' rows lie in the tile
tile-in : (c : After-load) → c.groups_of-groups.result * (c.args.self.job.w.bytes * 256) ≤ length c.load.new.tile
tile-in c =
    let j = c.args.self.job in
    rw c.groups_of-groups.ensures.value (omega (arith, groups_inside j.w.bytes j.m.rows j.w.some j.w.most, c.load.auto.tile, c.requires.room.lanes))

pub slice_bounds-apply-end : goal.slice_bounds-apply-end
slice_bounds-apply-end c = tile-in (goal.at.slice_bounds-apply-end c).After-load

pub slice_bounds-apply-end-2 : goal.slice_bounds-apply-end-2
slice_bounds-apply-end-2 c = sym (length-take-le _ _ (tile-in (goal.at.slice_bounds-apply-end-2 c).After-load))

pub apply-requires : goal.apply-requires
apply-requires c =
    let j = c.args.self.job in
    let g = c.groups_of-groups.ensures.value in
    let words = length c.args.words.now in
    let e : j.m.outputs * (j.w.bytes * 64) ≡ j.w.bytes * j.m.outputs * 64 = sym (mul_assoc j.m.outputs j.w.bytes 64) ∙ ap (λ (x : ℕ). x * 64) (mul_comm j.m.outputs j.w.bytes) in
    let rows : j.m.outputs * (j.w.bytes * 64) ≤ words = omega (arith, e, rows_inside j.w.bytes j.m.outputs, c.requires.room.products) in
    record {
      tile_long = length-take-le _ _ (tile-in (goal.at.apply-requires c).After-load) ∙ rw (g, j.wide);
      table_long = length-take-le _ _ (omega (arith, g, c.requires.room.sums)) ∙ ap (λ (x : ℕ). x * 1024) g;
      out_long = rw j.wide at rows;
    }

pub returns : goal.returns
returns c =
    λ ws begun base.
    let p = c.args.self in
    let j = p.job in
    let g = c.groups_of-groups in
    let size = g.result * (j.w.bytes * 256) in
    let inside : j.w.bytes * j.m.rows * 64 ≤ size = rw g.ensures.value (rows_grouped j.w.bytes j.m.rows) in
    c.store.ensures _
    (λ q lane. product_lane (modulus j.m.field) j.w.bytes j.m.outputs j.m.rows size q ws _ _ _ j.wide inside (omega arith) (c.load.ensures q lane) (c.apply.ensures ws begun q (omega arith)))
    base
