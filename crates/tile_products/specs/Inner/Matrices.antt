-- A matrix of weights, w j being those of output j, as lists that stand one after the other.
use Rattle.std.specs.Prelude.{◌≡◌, ℕ, ◌+◌, ◌-◌, ◌*◌, ◌<◌, ◌≤◌, List, length, take, drop, slice_index}
use Rattle.lists.specs.Rows.{from}
use Rattle.layout.specs.Layout.{row_after_row, lane_of}
use Rattle.layout.specs.Width.{symbols_of, bytes_of}
use Rattle.field.specs.Inner.Sums.{dot}
use Rattle.field.specs.Widths.{bytes_for}
use Rattle.tiles.specs.Inner.Tiles.{TileOf}
use Rattle.tile_products.specs.Inner.Products.{groups_of, Prepared, Lists}

-- part j of parts of that size, as code lends it
abbrev pub part_of : ℕ → ℕ → List ℕ → List ℕ
part_of size j s = take (j * size + size - j * size) (drop (j * size) s)

-- the first j outputs have their lists
pub record Begun (p rows : ℕ) (w : ℕ → List ℕ) (j : ℕ) (lists counts : List ℕ) : Type 0 where
  pub size : (i : ℕ) → length (w i) ≡ rows
  pub each : (i : ℕ) → i < j → Prepared p (w i) (part_of (8 * groups_of rows) i lists) (part_of 8 i counts)

-- the first outputs have lists that are made of some weights
pub record Made (p rows outputs : ℕ) (lists counts : List ℕ) : Type 0 where
  pub few : outputs ≤ 255
  pub lists_room : outputs * (8 * groups_of rows) ≤ length lists
  pub counts_room : outputs * 8 ≤ length counts
  pub each : (i : ℕ) → i < outputs → Lists p rows (part_of (8 * groups_of rows) i lists) (part_of 8 i counts)

-- the products of a lane's symbols and the outputs' weights, as bytes
unfoldable pub lane_product : ℕ → ℕ → (ℕ → List ℕ) → List ℕ → List ℕ
lane_product p outputs w lane = bytes_of (bytes_for p) (from (λ i. dot p (symbols_of (bytes_for p) lane) (w i)) 0 outputs)

-- the rows of the first j outputs
abbrev pub OutputsOf : ℕ → ℕ → ℕ → (ℕ → List ℕ) → List ℕ → ℕ → List ℕ → Type 0
OutputsOf p rows outputs w tile j out = TileOf (bytes_for p * outputs) (j * bytes_for p) 64 (λ r t. slice_index (lane_product p outputs w (lane_of row_after_row (bytes_for p * rows) 64 t tile)) r) out

-- every lane of the rows has its products
abbrev pub Multiplied : ℕ → ℕ → ℕ → (ℕ → List ℕ) → List ℕ → List ℕ → Type 0
Multiplied p rows outputs w tile out = (t : ℕ) → t < 64 → lane_of row_after_row (bytes_for p * outputs) 64 t out ≡ lane_product p outputs w (lane_of row_after_row (bytes_for p * rows) 64 t tile)
