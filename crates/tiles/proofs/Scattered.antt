-- Lanes of a tile through its blocks.
use Rattle.std.proofs.Common.{◌≡◌, sym, ◌∙◌, List, ℕ, ◌+◌, ◌-◌, ◌*◌, ◌/◌, ◌%◌, ◌≤◌, ◌<◌, arith, length, get_or, take, drop}
use Rattle.lists.specs.Rows.{rows_from}
use Rattle.lists.proofs.Rows.{from_ext, get_d_part, rows_ext}
use Rattle.layout.specs.Layout.{row_after_row, lane_of}
use Rattle.layout.proofs.Places.{held_by_row}
use Rattle.tiles.specs.Inner.Squares.{placed, as_lanes, blocks_of, lane_at}
use Rattle.tiles.proofs.Shuffles.{length_placed, get_or_placed}

abbrev pub block_byte : List ℕ → ℕ → ℕ
block_byte tile p = get_or tile (p / 1024 * 1024 + (p % 16 * 64 + p % 1024 / 16)) 0

pub length_as_lanes : (tile : List ℕ) → length (as_lanes tile) ≡ 1024
unfolding as_lanes
length_as_lanes tile = length_placed _ 1024 tile

-- a block's byte in the blocks
pub block_byte_lem : (tile : List ℕ) (b p : ℕ) → p < 1024 → get_or (as_lanes (take (b * 1024 + 1024 - b * 1024) (drop (b * 1024) tile))) p 0 ≡ block_byte tile (b * 1024 + p)
unfolding as_lanes
block_byte_lem tile b p low =
    let block : (b * 1024 + p) / 1024 ≡ b = omega arith in
    let rest : (b * 1024 + p) % 1024 ≡ p = omega arith in
    let row : (b * 1024 + p) % 16 ≡ p % 16 = omega arith in
    get_or_placed _ 1024 (take (b * 1024 + 1024 - b * 1024) (drop (b * 1024) tile)) p low
    ∙ get_d_part (b * 1024) 1024 tile (p % 16 * 64 + p / 16) (omega arith)
    ∙ rw (block, rest, row)

-- symbol j of lane t in the blocks is row j of the tile
lane_byte : (tile : List ℕ) (n t j : ℕ) → t < 64 → j < n → get_or (blocks_of ((n + 15) / 16) tile) (j / 16 * 1024 + (t * 16 + j % 16)) 0 ≡ get_or tile (j * 64 + t) 0
unfolding blocks_of
lane_byte tile n t j lane low =
    let block : (j / 16 * 1024 + (t * 16 + j % 16)) / 1024 ≡ j / 16 = omega arith in
    let rest : (j / 16 * 1024 + (t * 16 + j % 16)) % 1024 ≡ t * 16 + j % 16 = omega arith in
    let row : (j / 16 * 1024 + (t * 16 + j % 16)) % 16 ≡ j % 16 = omega arith in
    let column : (t * 16 + j % 16) / 16 ≡ t = omega arith in
    let place : j / 16 * 1024 + (j % 16 * 64 + t) ≡ j * 64 + t = omega arith in
    let inside : j / 16 < (n + 15) / 16 = omega arith in
    get_or_placed _ ((n + 15) / 16 * 1024) tile (j / 16 * 1024 + (t * 16 + j % 16)) (omega arith)
    ∙ rw (block, rest, row, column, place)

pub lane_of_tile : (tile : List ℕ) (n t : ℕ) → t < 64 → lane_at t n (blocks_of ((n + 15) / 16) tile) ≡ lane_of row_after_row n 64 t tile
unfolding lane_at placed lane_of
lane_of_tile tile n t lane =
    from_ext _ _ 0 n (λ j low high. lane_byte tile n t j lane (omega arith) ∙ sym (held_by_row n 64 tile j t))

pub lanes_of_tile : (tile : List ℕ) (n count : ℕ) → count ≤ 64 → rows_from (λ t. lane_at t n (blocks_of ((n + 15) / 16) tile)) 0 count ≡ rows_from (λ t. lane_of row_after_row n 64 t tile) 0 count
lanes_of_tile tile n count few = rows_ext _ _ 0 count (λ t low high. lane_of_tile tile n t (omega arith))
