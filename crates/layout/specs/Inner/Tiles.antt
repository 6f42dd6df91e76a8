-- Tiles: some lanes as rows of bytes, w rows for each row of symbols, the row of the high bytes first.
use Rattle.std.specs.Prelude.{List, ℕ, ◌*◌}
use Rattle.layout.specs.Layout.{row_after_row, lane_after_lane, rearranged}
use Rattle.layout.specs.Width.{symbols_of, bytes_of}

-- the symbols of a tile, row after row: those of the same lanes as they stand lane after lane
unfoldable pub tile_symbols : ℕ → ℕ → ℕ → List ℕ → List ℕ
tile_symbols w rows l s = rearranged lane_after_lane row_after_row rows l (symbols_of w (rearranged row_after_row lane_after_lane (w * rows) l s))

-- the tile of rows of symbols
unfoldable pub tile_bytes : ℕ → ℕ → ℕ → List ℕ → List ℕ
tile_bytes w rows l xs = rearranged lane_after_lane row_after_row (w * rows) l (bytes_of w (rearranged row_after_row lane_after_lane rows l xs))
