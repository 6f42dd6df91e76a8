-- The lanes of a tile, their symbols, and the rows of an output.
use Rattle.std.proofs.Common.{◌≡◌, ℕ, suc, ◌+◌, ◌*◌, ◌/◌, ◌<◌, ◌≤◌, List, [], ◌∷◌, length, get_or, take, sym, refl, ap, ◌∙◌, mul_comm, one-mul, zero-add, mul-div_cancel, arith, get_or-take}
use Rattle.lists.specs.Rows.{from}
use Rattle.lists.proofs.Images.{from_self}
use Rattle.std.proofs.lemmas.Nat.{mul-add-lt}
use Rattle.lists.proofs.Rows.{from_ext, length_from, get_or_from, row_inside}
use Rattle.layout.specs.Layout.{row_after_row, held, lane_of}
use Rattle.layout.specs.Width.{value_from, symbol_at, symbols_of, symbol_bytes}
use Rattle.layout.specs.Inner.Tiles.{tile_symbols, tile_bytes}
use Rattle.layout.proofs.Buffers.{length_lane, get_or_lane}
use Rattle.layout.proofs.Places.{held_by_row}
use Rattle.layout.proofs.Widths.{symbols_one, length_bytes}
use Rattle.layout.proofs.Readings.{count_symbols, symbol_digits, get_or_bytes}
use Rattle.layout.proofs.Tiles.{held_tile_symbols, held_tile_bytes}
use Rattle.field.specs.Fields.{add, mul}
use Rattle.field.specs.Inner.Sums.{dot}
use Rattle.field.specs.Widths.{bytes_for}
use Rattle.field.proofs.Widths.{bytes_range}
use Rattle.tiles.proofs.Gathered.{tile_lane}
use Rattle.row_sums.specs.Inner.Combined.{combined}
use Rattle.tile_products.specs.Inner.Products.{symbols_in, OutputRows}
use Rattle.tile_products.specs.Inner.Matrices.{lane_product, OutputsOf, Multiplied}

-- a tile's lane lies in its first places
pub lane_prefix : (rows size t : ℕ) (tile : List ℕ) → rows * 64 ≤ size → t < 64 → lane_of row_after_row rows 64 t (take size tile) ≡ lane_of row_after_row rows 64 t tile
unfolding lane_of
lane_prefix rows size t tile fits lane =
    from_ext _ _ 0 rows
    (λ i low high.
    held_by_row rows 64 (take size tile) i t ∙ get_or-take size tile (i * 64 + t) 0 (omega (arith, row_inside rows i 64 (omega arith))) ∙ sym (held_by_row rows 64 tile i t))

lane_from_lem : (rows t : ℕ) (s : List ℕ) → lane_of row_after_row rows 64 t s ≡ from (λ i. held row_after_row rows 64 s i t) 0 rows
unfolding lane_of
lane_from_lem rows t s = refl

-- the symbols of a tile's lane are those of its bytes
lane_values : (w rows t : ℕ) (tile : List ℕ) → 0 < w → t < 64 → lane_of row_after_row rows 64 t (tile_symbols w rows 64 tile) ≡ from (symbol_at w (lane_of row_after_row (w * rows) 64 t tile)) 0 rows
lane_values w rows t tile some lane =
    lane_from_lem rows t (tile_symbols w rows 64 tile)
    ∙ from_ext _ _ 0 rows
    (λ i low high.
    let row : i < rows = omega arith in
    let bytes = lane_of row_after_row (w * rows) 64 t tile in
    let inside : i * w + w ≤ length bytes = rw (length_lane row_after_row (w * rows) 64 t tile, mul_comm w rows) (row_inside rows i w row) in
    held_tile_symbols w rows 64 tile i t some row lane
    ∙ ap (value_from 0)
    (from_ext _ _ 0 w (λ v low' high'. sym (get_or_lane row_after_row (w * rows) 64 t tile (i * w + v) (mul-add-lt i w v rows row (omega arith)))))
    ∙ sym (symbol_digits w bytes i inside))

pub lane_symbols : (w rows t : ℕ) (tile : List ℕ) → 0 < w → t < 64 → lane_of row_after_row rows 64 t (tile_symbols w rows 64 tile) ≡ symbols_of w (lane_of row_after_row (w * rows) 64 t tile)
unfolding symbols_of
lane_symbols w rows t tile some lane =
    let bytes = lane_of row_after_row (w * rows) 64 t tile in
    let count : length bytes / w ≡ rows = ap (λ (n : ℕ). n / w) (length_lane row_after_row (w * rows) 64 t tile ∙ mul_comm w rows) ∙ mul-div_cancel rows some in
    lane_values w rows t tile some lane ∙ sym (ap (from (symbol_at w bytes) 0) count)

pub length_symbols_in : (p rows t : ℕ) (tile : List ℕ) → length (symbols_in p rows tile t) ≡ rows
length_symbols_in p rows t tile =
    count_symbols (bytes_for p) rows _ (bytes_range p).0 (length_lane row_after_row (bytes_for p * rows) 64 t tile ∙ mul_comm (bytes_for p) rows)

-- sums with weights of which only the first count
dot_front : (p : ℕ) (xs ws vs : List ℕ) → length xs ≤ length ws → length xs ≤ length vs → ((i : ℕ) → i < length xs → get_or ws i 0 ≡ get_or vs i 0) → dot p xs ws ≡ dot p xs vs
unfolding dot
dot_front p [] ws vs a b same = refl
dot_front p (x ∷ xs) [] vs a b same = absurd (omega arith)
dot_front p (x ∷ xs) (w ∷ ws) [] a b same = absurd (omega arith)
dot_front p (x ∷ xs) (w ∷ ws) (v ∷ vs) a b same =
    ap (λ (n : ℕ). add p (mul p x n) (dot p xs ws)) (same 0 (omega arith))
    ∙ ap (add p (mul p x v)) (dot_front p xs ws vs (omega arith) (omega arith) (λ i h. same (suc i) (omega arith)))

pub output_front : {p rows : ℕ} {ws vs tile out : List ℕ} → rows ≤ length ws → rows ≤ length vs → ((i : ℕ) → i < rows → get_or ws i 0 ≡ get_or vs i 0) → OutputRows p rows ws tile out → OutputRows p rows vs tile out
output_front {p} {rows} {ws} {vs} {tile} a b same o =
    record {
      holds = λ v t byte lane.
          let size = length_symbols_in p rows t tile in
          o.holds v t byte lane
          ∙ ap (λ (x : ℕ). get_or (symbol_bytes (bytes_for p) x) v 0) (dot_front p (symbols_in p rows tile t) ws vs (omega arith) (omega arith) (λ i h. same i (omega arith)));
    }

module _ (p rows : ℕ) (ws tile : List ℕ) where
  -- what the sums hold
  sum_at : (s : List ℕ) (t : ℕ) → t < 64 → get_or (combined row_after_row p rows 64 ws s) t 0 ≡ dot p (lane_of row_after_row rows 64 t s) ws
  unfolding combined
  sum_at s t lane = get_or_from _ 0 64 t 0 lane ∙ ap (λ (x : ℕ). dot p (lane_of row_after_row rows 64 x s) ws) (zero-add t)

  -- sums of bytes
  pub one_row : {out : List ℕ} → bytes_for p ≡ 1 → out ≡ combined row_after_row p rows 64 ws tile → OutputRows p rows ws tile out
  unfolding symbol_bytes
  one_row {out} one e =
      record {
        holds = rw one
            (λ v t byte lane.
            let none : v ≡ 0 = omega arith in
            let place : 0 * 64 + t ≡ t = omega arith in
            rw (none, place, e, one-mul rows) (sum_at tile t lane ∙ ap (λ (x : List ℕ). dot p x ws) (sym (symbols_one (lane_of row_after_row rows 64 t tile)))));
      }

  -- sums of symbols of two bytes, from the tile's first places
  pub two_rows : {out : List ℕ} (size : ℕ) → rows * 128 ≤ size → bytes_for p ≡ 2 → out ≡ tile_bytes 2 1 64 (combined row_after_row p rows 64 ws (tile_symbols 2 rows 64 (take size tile))) → OutputRows p rows ws tile out
  two_rows {out} size fits two e =
      record {
        holds = rw two
            (λ v t byte lane.
            let sums = combined row_after_row p rows 64 ws (tile_symbols 2 rows 64 (take size tile)) in
            let first : v * 64 + t ≡ (0 * 2 + v) * 64 + t = omega arith in
            let start : 0 * 64 + t ≡ t = omega arith in
            ap (λ (x : List ℕ). get_or x (v * 64 + t) 0) e
            ∙ ap (λ (x : ℕ). get_or (tile_bytes 2 1 64 sums) x 0) first
            ∙ sym (held_by_row (2 * 1) 64 (tile_bytes 2 1 64 sums) (0 * 2 + v) t)
            ∙ held_tile_bytes 2 1 64 sums 0 v t (omega arith) byte lane
            ∙ ap (λ (x : ℕ). get_or (symbol_bytes 2 x) v 0)
            (held_by_row 1 64 sums 0 t
            ∙ ap (λ (x : ℕ). get_or sums x 0) start
            ∙ sum_at (tile_symbols 2 rows 64 (take size tile)) t lane
            ∙ ap (λ (x : List ℕ). dot p x ws)
            (lane_symbols 2 rows t (take size tile) (omega arith) lane
            ∙ ap (symbols_of 2) (lane_prefix (2 * rows) size t tile (omega arith) lane))));
      }

module _ (p rows outputs : ℕ) (w : ℕ → List ℕ) (tile : List ℕ) where
  abbrev product : ℕ → List ℕ
  product t = lane_product p outputs w (lane_of row_after_row (bytes_for p * rows) 64 t tile)

  -- the rows of output j among those of all
  pub output_row : {out : List ℕ} (j : ℕ) → j < outputs → OutputRows p rows (w j) tile out → (i t : ℕ) → i < bytes_for p → j * bytes_for p + i < bytes_for p * outputs → t < 64 → (i * 64 + t < bytes_for p * 64) × (get_or out (i * 64 + t) 0 ≡ get_or (product t) (j * bytes_for p + i) 0)
  unfolding lane_product
  output_row {out} j output o i t byte row lane =
      let sums = from (λ i. dot p (symbols_in p rows tile t) (w i)) 0 outputs in
      let at : get_or sums j 0 ≡ dot p (symbols_in p rows tile t) (w j) = get_or_from _ 0 outputs j 0 output ∙ ap (λ (x : ℕ). dot p (symbols_in p rows tile t) (w x)) (zero-add j) in (
        omega (arith, row_inside (bytes_for p) i 64 byte),
        o.holds i t byte lane
            ∙ ap (λ (x : ℕ). get_or (symbol_bytes (bytes_for p) x) i 0) (sym at)
            ∙ sym (get_or_bytes (bytes_for p) sums j i (rw (length_from (λ i. dot p (symbols_in p rows tile t) (w i)) 0 outputs) output) byte),
      )

  length_product : (t : ℕ) → length (product t) ≡ bytes_for p * outputs
  unfolding lane_product
  length_product t = length_bytes (bytes_for p) _ ∙ ap (λ (n : ℕ). n * bytes_for p) (length_from _ 0 outputs) ∙ mul_comm outputs (bytes_for p)

  -- and every lane
  pub outputs_lanes : {out : List ℕ} → OutputsOf p rows outputs w tile outputs out → Multiplied p rows outputs w tile out
  outputs_lanes {out} made t lane =
      let n = bytes_for p * outputs in
      tile_lane n (outputs * bytes_for p) 64 _ out made (omega (arith, mul_comm (bytes_for p) outputs)) t lane
      ∙ from_self (product t) n (length_product t)
