-- A tile that is filled from lanes, 16 rows at a time, or from rows.
use Rattle.std.proofs.Common.{◌≡◌, sym, ap, ◌∙◌, List, ◌++◌, ℕ, ◌+◌, ◌-◌, ◌*◌, ◌/◌, ◌%◌, ◌≤◌, ◌<◌, arith, length, get_or, take, drop}
use mathlib.Core.Logic.{by_cases}
use native.Mathlib.Decide.{dec_lt}
use Rattle.lists.specs.Rows.{from}
use Rattle.lists.proofs.Rows.{from_ext}
use Rattle.layout.specs.Layout.{row_after_row, lane_after_lane, held, lane_of}
use Rattle.layout.proofs.Places.{held_by_row, held_by_lane}
use Rattle.layout.proofs.Runs.{replaced_before, replaced_inside}
use lib.Lanes.{chunk, put_chunk}
use Rattle.std.proofs.lemmas.Simd.{length-chunk, length-put_chunk, get_or-chunk, get_or-put_chunk_below, get_or-put_chunk_at}
use Rattle.tiles.specs.Inner.Squares.{as_rows}
use Rattle.tiles.specs.Inner.Tiles.{Read, BlockOf, TileOf}
use Rattle.tiles.proofs.Shuffles.{length_placed, get_or_placed}

-- 16 bytes from `at` on stored at `to`
pub read_chunk : (part start : List ℕ) (at to : ℕ) → at + 16 ≤ length part → to + 16 ≤ length start → Read part at to start (put_chunk to start (chunk at 16 part))
read_chunk part start at to inside room =
    let size : length (chunk at 16 part) ≡ 16 = length-chunk at 16 part inside in
    record {
      long = length-put_chunk to start (chunk at 16 part);
      put = λ i low has. get_or-put_chunk_at to start (chunk at 16 part) i 0 (omega arith) (omega arith) ∙ get_or-chunk at 16 part i 0 low;
      kept = λ x low. get_or-put_chunk_below to start (chunk at 16 part) x 0 low;
    }

-- d rows more, written through their part
pub tile_more : (rows r d count : ℕ) (f : ℕ → ℕ → ℕ) (tile xs : List ℕ) (k : ℕ) → length xs ≡ k → r * 64 + k ≤ length tile → count ≤ 64 → TileOf rows r count f tile → ((i t : ℕ) → i < d → r + i < rows → t < count → (i * 64 + t < k) × (get_or xs (i * 64 + t) 0 ≡ f (r + i) t)) → TileOf rows (r + d) count f (take (r * 64) tile ++ (xs ++ drop k (drop (r * 64) tile)))
tile_more rows r d count f tile xs k size fits few held same =
    record {
      holds = λ i t row below lane.
          by_cases (dec_lt i r)
          (λ low. replaced_before tile xs (r * 64) k size fits (i * 64 + t) (omega arith) ∙ held.holds i t row low lane)
          (λ high.
          let j : ℕ = i - r in
          let back : r + j ≡ i = omega arith in
          let place : r * 64 + (j * 64 + t) ≡ i * 64 + t = omega arith in
          let (inside, is) = same j t (omega arith) (omega arith) lane in
          ap (λ (x : ℕ). get_or (take (r * 64) tile ++ (xs ++ drop k (drop (r * 64) tile))) x 0) (sym place)
          ∙ replaced_inside tile xs (r * 64) k size fits (j * 64 + t) inside
          ∙ is
          ∙ ap (λ (x : ℕ). f x t) back);
    }

-- a lane of a tile that is filled
pub tile_lane : (rows r count : ℕ) (f : ℕ → ℕ → ℕ) (tile : List ℕ) → TileOf rows r count f tile → rows ≤ r → (t : ℕ) → t < count → lane_of row_after_row rows 64 t tile ≡ from (λ i. f i t) 0 rows
unfolding lane_of
tile_lane rows r count f tile held all t lane =
    from_ext _ _ 0 rows (λ i low high. held_by_row rows 64 tile i t ∙ held.holds i t (omega arith) (omega arith) lane)

-- a block's lanes as rows
pub length_rows_of : (block : List ℕ) → length (as_rows block) ≡ 1024
unfolding as_rows
length_rows_of block = length_placed _ 1024 block

pub block_rows : (rows j count : ℕ) (part block : List ℕ) → count ≤ 64 → BlockOf rows j count part block → (i t : ℕ) → i < 16 → j + i < rows → t < count → (i * 64 + t < 1024) × (get_or (as_rows block) (i * 64 + t) 0 ≡ held lane_after_lane rows count part (j + i) t)
unfolding as_rows
block_rows rows j count part block few b i t low row lane =
    let inside : i * 64 + t < 1024 = omega arith in
    let place : (i * 64 + t) % 64 * 16 + (i * 64 + t) / 64 ≡ t * 16 + i = omega arith in (
      inside,
      get_or_placed _ 1024 block (i * 64 + t) inside
          ∙ ap (λ (x : ℕ). get_or block x 0) place
          ∙ b.holds t i lane low row
          ∙ sym (held_by_lane rows count part (j + i) t),
    )
