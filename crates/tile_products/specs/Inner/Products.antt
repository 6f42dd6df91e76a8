-- The lists that outputs are made from, for each kind of field. A field is its prime p, or 0 for the field of 256 elements.
use Rattle.std.specs.Prelude.{◌≡◌, ℕ, ◌+◌, ◌*◌, ◌/◌, ◌<◌, ◌≤◌, true, List, length, slice_index}
use Rattle.lists.specs.Numbers.{all_below}
use Rattle.layout.specs.Layout.{row_after_row, lane_of}
use Rattle.layout.specs.Width.{symbols_of, symbol_bytes}
use Rattle.field.specs.Fields.{size_of}
use Rattle.field.specs.Inner.Sums.{dot}
use Rattle.field.specs.Widths.{bytes_for}
use Rattle.subset_sums.specs.Inner.Subsets.{table_of}
use Rattle.subset_sums.specs.Inner.Lists.{Listing}
use Rattle.subset_sums.specs.Inner.Spread.{spreads}
use Rattle.tile_products.specs.Inner.Ratios.{Ratios, Scaled}

-- groups of four rows, the last one filled up
unfoldable pub groups_of : ℕ → ℕ
groups_of rows = (rows + 3) / 4

-- what stands for each weight; a weight of two bytes stands for itself
pub record Codes (p : ℕ) (codes : List ℕ) : Type 0 where
  pub digits : p ≡ 0 → codes ≡ spreads
  pub ratios : 0 < p → p ≤ 256 → Ratios p codes

-- the weights that a list begins with
pub record InFrontOf (ws list : List ℕ) : Type 0 where
  pub long : length ws ≤ length list
  pub weights : (i : ℕ) → i < length ws → slice_index list i ≡ slice_index ws i

-- the lists for the weights of an output
pub record Prepared (p : ℕ) (ws list counts : List ℕ) : Type 0 where
  pub few : length ws ≤ 255
  pub below : all_below (size_of p) ws ≡ true
  pub long : length list ≡ 8 * groups_of (length ws)
  pub counted : length counts ≡ 8
  pub slices : p ≡ 0 → Listing (groups_of (length ws)) ws list counts
  pub ratios : 0 < p → p ≤ 256 → Scaled p ws list
  pub plain : 256 < p → InFrontOf ws list

-- some weights of so many rows have these lists
pub record Lists (p rows : ℕ) (list counts : List ℕ) : Type 0 where
  pub weights : List ℕ
  pub size : length weights ≡ rows
  pub prepared : Prepared p weights list counts

-- the rows of a tile are rows of bytes of 64 lanes, as many for each row of symbols as a symbol has bytes: the symbols of lane t
abbrev pub symbols_in : ℕ → ℕ → List ℕ → ℕ → List ℕ
symbols_in p rows tile t = symbols_of (bytes_for p) (lane_of row_after_row (bytes_for p * rows) 64 t tile)

-- an output's rows of bytes: in each lane the sum of the symbols times the weights
pub record OutputRows (p rows : ℕ) (ws tile out : List ℕ) : Type 0 where
  pub holds : (v t : ℕ) → v < bytes_for p → t < 64 → slice_index out (v * 64 + t) ≡ slice_index (symbol_bytes (bytes_for p) (dot p (symbols_in p rows tile t) ws)) v

-- a tile in groups of four rows of symbols, and its table
pub record Loaded (p groups : ℕ) (tile table : List ℕ) : Type 0 where
  pub few : groups ≤ 64
  pub long : length tile ≡ groups * (bytes_for p * 256)
  pub table_long : length table ≡ groups * 1024
  pub sums : p ≡ 0 → table ≡ table_of groups tile
