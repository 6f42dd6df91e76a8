-- Tiles of 64 lanes, and parts of lanes in a block of 64 lanes by 16 rows.
use Rattle.std.specs.Prelude.{◌≡◌, List, ℕ, ◌+◌, ◌*◌, ◌<◌, length, get_or}
use Rattle.layout.specs.Layout.{row_after_row, lane_after_lane, lane_of}

-- of the 16 places from `to` on, those for which there is a byte from `at` on hold it, and the places before are as they were
pub record Read (part : List ℕ) (at to : ℕ) (start now : List ℕ) : Type 0 where
  pub long : length now ≡ length start
  pub put : (i : ℕ) → i < 16 → at + i < length part → get_or now (to + i) 0 ≡ get_or part (at + i) 0
  pub kept : (x : ℕ) → x < to → get_or now x 0 ≡ get_or start x 0

-- the rows from j on of each lane
pub record BlockOf (rows j count : ℕ) (part block : List ℕ) : Type 0 where
  pub long : length block ≡ 1024
  pub holds : (t i : ℕ) → t < count → i < 16 → j + i < rows → get_or block (t * 16 + i) 0 ≡ get_or part (t * rows + (j + i)) 0

-- the first `count` lanes of a tile are the lanes of a part, where they stand one after the other
abbrev pub LanesIn : (rows count : ℕ) → (part start now : List ℕ) → Type 0
LanesIn rows count part start now = (length now ≡ length start) × ((t : ℕ) → t < count → lane_of row_after_row rows 64 t now ≡ lane_of lane_after_lane rows count t part)

-- of the rows below r, which are f's, the first lanes of a tile
pub record TileOf (rows r count : ℕ) (f : ℕ → ℕ → ℕ) (tile : List ℕ) : Type 0 where
  pub holds : (i t : ℕ) → i < rows → i < r → t < count → get_or tile (i * 64 + t) 0 ≡ f i t
