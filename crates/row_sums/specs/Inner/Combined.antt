-- Sums of the rows of a buffer times weights, in every lane.
use Rattle.std.specs.Prelude.{◌≡◌, true, List, ℕ, ◌*◌, ◌≤◌, length}
use Rattle.lists.specs.Rows.{from}
use Rattle.lists.specs.Numbers.{all_below}
use Rattle.layout.specs.Layout.{Arrangement, row_after_row, lane_of}
use Rattle.layout.specs.Width.{bytes_of}
use Rattle.layout.specs.Inner.Tiles.{tile_symbols, tile_bytes}
use Rattle.field.specs.declared.Field.{Field}
use Rattle.field.specs.Fields.{size_of}
use Rattle.field.specs.Kinds.{modulus, usable}
use Rattle.field.specs.Inner.Sums.{dot}
use Rattle.field.specs.Widths.{bytes_for}

-- in each lane the sum of the rows' symbols times the weights
unfoldable pub combined : Arrangement → ℕ → ℕ → ℕ → List ℕ → List ℕ → List ℕ
combined y p rows l ws s = from (λ t. dot p (lane_of y rows l t s) ws) 0 l

-- rows of l symbols below q, a weight for each row, and a row to write
pub record Weighted (q rows l : ℕ) (ws s : List ℕ) (out : ℕ) : Type 0 where
  pub few : rows ≤ 255
  pub weights : rows ≤ length ws
  pub weights_below : all_below q ws ≡ true
  pub long : length s ≡ rows * l
  pub symbols : all_below q s ≡ true
  pub out_long : out ≡ l

-- the same in a tile over the field that p names: a row of symbols is as many rows of bytes as a symbol has
pub record TileRows (p rows l : ℕ) (ws s : List ℕ) (out : ℕ) : Type 0 where
  pub few_lanes : l ≤ 4096
  pub bytes : length s ≡ bytes_for p * rows * l
  pub weighted : Weighted (size_of p) rows l ws (tile_symbols (bytes_for p) rows l s) l
  pub out_is_bytes : out ≡ bytes_for p * l

pub record WeightedRows (field : Field) (rows l : ℕ) (ws s : List ℕ) (out : ℕ) : Type 0 where
  pub usable_field : usable field ≡ true
  pub tile : TileRows (modulus field) rows l ws s out

-- the row of bytes, or the rows, that the sums of a tile's rows are
unfoldable pub combined_tile : ℕ → ℕ → ℕ → List ℕ → List ℕ → List ℕ
combined_tile p rows l ws s = tile_bytes (bytes_for p) 1 l (combined row_after_row p rows l ws (tile_symbols (bytes_for p) rows l s))

-- the same as symbols one after the other
unfoldable pub combined_bytes : ℕ → ℕ → ℕ → List ℕ → List ℕ → List ℕ
combined_bytes p rows l ws s = bytes_of (bytes_for p) (combined row_after_row p rows l ws (tile_symbols (bytes_for p) rows l s))
