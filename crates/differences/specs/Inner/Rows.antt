-- Rows of symbols as tiles: what the functions behind the calls rely on and give.
use Rattle.std.specs.Prelude.{List, ◌++◌, ℕ, get_or}
use Rattle.lists.specs.Rows.{from}
use Rattle.layout.specs.Layout.{row_after_row, lane_after_lane, rearranged}
use Rattle.field.specs.Fields.{sub, mul}
use Rattle.generator.specs.declared.Header.{Header}
use Rattle.generator.specs.Records.{modulus_of}

-- the tile of a row of l symbols of w bytes: a row of bytes for each byte of a symbol
abbrev pub row_tile : ℕ → ℕ → List ℕ → List ℕ
row_tile w l s = rearranged lane_after_lane row_after_row w l s

-- the tiles of two rows, one after the other
abbrev pub pair_tile : ℕ → ℕ → List ℕ → List ℕ → List ℕ
pair_tile w l a b = row_tile w l a ++ row_tile w l b

-- a row of symbols less another, and a row times a weight
unfoldable pub row_less : Header → ℕ → List ℕ → List ℕ → List ℕ
row_less h l xs ys = from (λ t. sub (modulus_of h) (get_or xs t 0) (get_or ys t 0)) 0 l

unfoldable pub row_times : Header → ℕ → List ℕ → ℕ → List ℕ
row_times h l xs c = from (λ t. mul (modulus_of h) (get_or xs t 0) c) 0 l
