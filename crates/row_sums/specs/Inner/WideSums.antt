-- Sums of symbols of two bytes: as numbers, over the field, and written as rows of high and of low bytes.
use Rattle.std.specs.Prelude.{◌≡◌, List, [], ◌∷◌, ℕ, ◌+◌, ◌*◌, ◌/◌, ◌%◌, ◌≤◌, length, set}
use Rattle.layout.specs.Layout.{row_after_row, lane_of}
use Rattle.layout.specs.Inner.Tiles.{tile_symbols}
use Rattle.field.specs.Inner.Sums.{dot}

-- the sum of the products of two lists, as far as both go
unfoldable pub product_sum : List ℕ → List ℕ → ℕ
product_sum [] ws = 0
product_sum (y ∷ ys) [] = 0
product_sum (y ∷ ys) (w ∷ ws) = y * w + product_sum ys ws

-- two rows of l bytes for each row of symbols, and a weight for each of these
pub record WideRows (rows l : ℕ) (ws s : List ℕ) : Type 0 where
  pub few : rows ≤ 255
  pub weights : rows ≤ length ws
  pub long : length s ≡ 2 * rows * l

-- the sum of lane t over the field
unfoldable pub wide_sum : ℕ → ℕ → ℕ → List ℕ → List ℕ → ℕ → ℕ
wide_sum p rows l ws s t = dot p (lane_of row_after_row rows l t (tile_symbols 2 rows l s)) ws

-- a row of l high bytes and a row of low bytes after symbols were put into them, from lane t on
unfoldable pub pairs_put : ℕ → ℕ → List ℕ → List ℕ → List ℕ
pairs_put l t [] acc = acc
pairs_put l t (x ∷ xs) acc = pairs_put l (t + 1) xs (set (set acc t (x / 256)) (l + t) (x % 256))
