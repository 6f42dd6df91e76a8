-- `new` meets its contract: over a prime field there is nothing to do.
use Rattle.std.proofs.Common.{◌≡◌, ℕ, ◌*◌, ◌/◌, ◌≤◌, List, length, ap, ◌∙◌, arith}
use Rattle.lists.proofs.Numbers.{at_below}
use Rattle.field.specs.Kinds.{modulus}
use Rattle.field.specs.Widths.{bytes_for}
use Rattle.subset_sums.proofs.Right.{length_table}
use Rattle.tile_products.specs.Inner.Products.{groups_of}
use Rattle.tile_products.proofs.Arms.{prime_loaded, byte_one, byte_loaded}
use Rattle.tile_products.proofs.Fitting.{groups_few}
use Rattle.tile_products.proofs.loaded.LoadedTile.new.Goals as goal
use Rattle.tile_products.proofs.loaded.LoadedTile.new.Goals.{Start, in-Prime, in-Binary}

few : (c : Start) → groups_of c.args.matrix.shape.rows ≤ 64
few c = groups_few c.args.matrix.shape.rows 64 (omega (arith, c.args.matrix.few))

-- a tile of symbols of one byte
tile_groups : (b g : ℕ) (tile : List ℕ) → b ≡ 1 → length tile ≡ g * (b * 256) → length tile / 256 ≡ g
tile_groups b g tile one long = let all : length tile ≡ g * (1 * 256) = long ∙ ap (λ (x : ℕ). g * (x * 256)) one in omega (arith, all)

pub fill_table-requires : goal.fill_table-requires
fill_table-requires c =
    let m = c.args.matrix.shape in
    let one : bytes_for (modulus m.field) ≡ 1 = rw c.in-Binary.is (byte_one _) in
    rw (tile_groups _ (groups_of m.rows) c.args.tile.now one c.requires.tile_long) c.requires.table_long

pub invariant_of-result : goal.invariant_of-result
invariant_of-result c =
    let m = c.args.matrix in
    let less = few (goal.at.invariant_of-result c).Start in
    let bytes = at_below 256 c.args.tile.now (λ i h. omega (arith, c.type_inv.tile i)) in
    elim c.match-matrix.branch [
      | in-Prime w ↦
          let e = w.in-Prime.is in
          record { bytes = bytes; loaded = rw (w.table-is, e) (prime_loaded _ (rw e at m.usable_field) less (rw e at c.requires.tile_long) c.requires.table_long) }
      | in-Binary w ↦
          let e = w.in-Binary.is in
          let one : bytes_for (modulus m.shape.field) ≡ 1 = rw e (byte_one _) in
          let made = rw (tile_groups _ (groups_of m.shape.rows) c.args.tile.now one c.requires.tile_long) at w.fill_table.ensures in
          record { bytes = bytes; loaded = rw (w.table-is, e) (byte_loaded _ less (rw e at c.requires.tile_long) (ap length made ∙ length_table _ _) made) }
    ]
