-- Squares of 16 rows by 16 lanes and blocks of 16 rows by 64 lanes, by the place that each byte comes from.
use Rattle.std.specs.Prelude.{◌≡◌, List, ℕ, ◌+◌, ◌*◌, ◌/◌, ◌%◌, ◌≤◌, ◌<◌, length, get_or}
use Rattle.lists.specs.Rows.{from}

-- n bytes, byte p from place g p of x
unfoldable pub placed : (ℕ → ℕ) → ℕ → List ℕ → List ℕ
placed g n x = from (λ p. get_or x (g p) 0) 0 n

-- two halves of 128 bytes interleaved
unfoldable pub shuffled : List ℕ → List ℕ
shuffled x = placed (λ p. p / 2 + p % 2 * 128) 256 x

-- a square's byte i·16 + t at t·16 + i
unfoldable pub turned : List ℕ → List ℕ
turned x = placed (λ p. p % 16 * 16 + p / 16) 256 x

-- 16 bytes of each of 16 rows that stand `width` apart, from byte `first` of each on
unfoldable pub square_at : ℕ → ℕ → List ℕ → List ℕ
square_at width first rows = placed (λ p. p / 16 * width + (first + p % 16)) 256 rows

-- a block's rows (symbol i of lane t at i·64 + t) as lanes (at t·16 + i)
unfoldable pub as_lanes : List ℕ → List ℕ
as_lanes tile = placed (λ p. p % 16 * 64 + p / 16) 1024 tile

-- and lanes as rows
unfoldable pub as_rows : List ℕ → List ℕ
as_rows block = placed (λ p. p % 64 * 16 + p / 64) 1024 block

-- the same for block after block
unfoldable pub blocks_of : ℕ → List ℕ → List ℕ
blocks_of count tile = placed (λ p. p / 1024 * 1024 + (p % 16 * 64 + p % 1024 / 16)) (count * 1024) tile

-- the n symbols of lane t out of blocks of 16 nodes
unfoldable pub lane_at : ℕ → ℕ → List ℕ → List ℕ
lane_at t n blocks = placed (λ j. j / 16 * 1024 + (t * 16 + j % 16)) n blocks

-- the first rows of the square a stand in rows that are `width` apart, from byte `first` of each on, as far as a row goes, and where a row has
-- room for all of it the bytes before are as they were
pub record Squared (width rows : ℕ) (a : List ℕ) (first : ℕ) (start now : List ℕ) : Type 0 where
  pub long : length now ≡ length start
  pub put : (r t : ℕ) → r < rows → t < 16 → first + t < width → get_or now (r * width + (first + t)) 0 ≡ get_or a (r * 16 + t) 0
  pub kept : first + 16 ≤ width → (r t : ℕ) → r < 16 → t < first → get_or now (r * width + t) 0 ≡ get_or start (r * width + t) 0

-- columns of rows that are `width` apart, from column `first` on, as rows that are `to` apart: byte r of row t is byte first + t of row r, as
-- far as a row goes
pub record TurnedTo (width to first columns count : ℕ) (rows start now : List ℕ) : Type 0 where
  pub long : length now ≡ length start
  pub holds : (t r : ℕ) → t < columns → r < count → r < to → get_or now (t * to + r) 0 ≡ get_or rows (r * width + (first + t)) 0
