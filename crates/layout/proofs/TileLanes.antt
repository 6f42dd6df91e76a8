-- Tiles of some lanes of a buffer: read and written again, gathered from lanes that stand side by side, and from rows.
use mathlib.Core.Path.{◌≡◌, sym, ap, ap₂, ◌∙◌}
use mathlib.Core.Bool.{true}
use mathlib.Core.List.{List}
use Prim.Native.Nat.{ℕ, ◌+◌, ◌-◌, ◌*◌, ◌≤◌, ◌<◌}
use native.Mathlib.Nat.{mul_assoc, mul_comm, add-sub_cancel_left}
use native.Mathlib.Omega.{arith}
use lib.ListN.{length, take, drop}
use Rattle.lists.specs.Numbers.{all_below}
use Rattle.lists.proofs.Numbers.{below_take, below_drop}
use Rattle.lists.proofs.Rows.{part_length}
use Rattle.layout.specs.Layout.{row_after_row, lane_after_lane, held, rearranged}
use Rattle.layout.specs.Inner.Parts.{some_lanes}
use Rattle.layout.specs.Width.{symbols_of, bytes_of}
use Rattle.layout.specs.Inner.Tiles.{tile_symbols, tile_bytes}
use Rattle.layout.proofs.Lawful.{by_row, by_lane}
use Rattle.layout.proofs.Buffers.{held_equal, rearranged_back, held_below, buffer_below}
use Rattle.layout.proofs.Places.{held_by_lane}
use Rattle.layout.proofs.Runs.{lanes_inside, rearranged_part, one_lane}
use Rattle.layout.proofs.Widths.{length_symbols, length_bytes, symbols_bytes}
use Rattle.layout.proofs.Readings.{count_symbols, bytes_symbols}
use Rattle.layout.proofs.Tiles.{held_to_rows, many_symbols, length_rearranged_lanes, length_rearranged_rows, tile_gathered, tile_scattered}
use Rattle.layout.proofs.LaneParts.{lanes_long, symbols_part}

module _ (w rows l : ℕ) (some : 0 < w) where
  -- the symbols of a tile that was made of symbols
  pub tile_read : (xs : List ℕ) → length xs ≡ rows * l → tile_symbols w rows l (tile_bytes w rows l xs) ≡ xs
  unfolding tile_symbols
  tile_read xs long =
      ap (λ (u : List ℕ). rearranged lane_after_lane row_after_row rows l (symbols_of w u)) (tile_scattered w rows l xs)
      ∙ ap (rearranged lane_after_lane row_after_row rows l) (symbols_bytes w (rearranged row_after_row lane_after_lane rows l xs) some)
      ∙ rearranged_back by_row by_lane rows l xs long

  -- and a tile of bytes that is made of its symbols
  pub tile_written : (s : List ℕ) → length s ≡ w * rows * l → all_below 256 s ≡ true → tile_bytes w rows l (tile_symbols w rows l s) ≡ s
  unfolding tile_symbols tile_bytes rearranged
  tile_written s long low =
      let P = rearranged row_after_row lane_after_lane (w * rows) l s in
      let size : length P ≡ w * rows * l = length_rearranged_lanes (w * rows) l s in
      let count : length (symbols_of w P) ≡ rows * l = length_symbols w P ∙ many_symbols w rows l P some size in
      let bytes : all_below 256 P ≡ true = buffer_below by_lane (w * rows) l 256 (held row_after_row (w * rows) l s) (held_below by_row (w * rows) l 256 s long low) in
      ap (λ (u : List ℕ). rearranged lane_after_lane row_after_row (w * rows) l (bytes_of w u)) (rearranged_back by_lane by_row rows l (symbols_of w P) count)
      ∙ ap (rearranged lane_after_lane row_after_row (w * rows) l) (bytes_symbols w (rows * l) P some (size ∙ sym (lanes_long w rows l)) bytes)
      ∙ rearranged_back by_row by_lane (w * rows) l s long

-- bytes stay bytes
bytes_rearranged : (n m : ℕ) (u : List ℕ) → length u ≡ n * m → all_below 256 u ≡ true → all_below 256 (rearranged lane_after_lane row_after_row n m u) ≡ true
unfolding rearranged
bytes_rearranged n m u long low = buffer_below by_row n m 256 (held lane_after_lane n m u) (held_below by_lane n m 256 u long low)

module _ (w rows l : ℕ) (s : List ℕ) (some : 0 < w) (long : length s ≡ w * rows * l) (low : all_below 256 s ≡ true) where
  total : length s ≡ rows * l * w
  total = long ∙ sym (lanes_long w rows l)

  -- lanes that stand side by side
  pub tile_lanes : (t c : ℕ) → t + c ≤ l → some_lanes lane_after_lane row_after_row (w * rows) l t c s ≡ tile_bytes w rows c (some_lanes lane_after_lane row_after_row rows l t c (symbols_of w s))
  tile_lanes t c fits =
      let a = t * (w * rows) in
      let k = c * (w * rows) in
      let part = take (a + k - a) (drop a s) in
      let inside : a + k ≤ length s = lanes_inside (w * rows) l s long t c fits in
      let size : length part ≡ w * rows * c = part_length a k s inside ∙ mul_comm c (w * rows) in
      let bytes : all_below 256 part ≡ true = below_take 256 (a + k - a) (drop a s) (below_drop 256 a s low) in
      let at : a ≡ t * rows * w = ap (λ (x : ℕ). t * x) (mul_comm w rows) ∙ sym (mul_assoc t rows w) in
      let many : a + k - a ≡ c * rows * w = add-sub_cancel_left a k ∙ ap (λ (x : ℕ). c * x) (mul_comm w rows) ∙ sym (mul_assoc c rows w) in
      let symbols : symbols_of w part ≡ take (t * rows + c * rows - t * rows) (drop (t * rows) (symbols_of w s)) =
      ap₂ (λ (x y : ℕ). symbols_of w (take x (drop y s))) many at
      ∙ symbols_part w (rows * l) s some total low (t * rows) (c * rows)
      ∙ ap (λ (x : ℕ). take x (drop (t * rows) (symbols_of w s))) (sym (add-sub_cancel_left (t * rows) (c * rows))) in
      sym (rearranged_part (w * rows) l s long by_row t c)
      ∙ sym (tile_written w rows c some (rearranged lane_after_lane row_after_row (w * rows) c part) (length_rearranged_rows (w * rows) c part) (bytes_rearranged (w * rows) c part size bytes))
      ∙ ap (tile_bytes w rows c)
      (tile_gathered w rows c part size
      ∙ ap (rearranged lane_after_lane row_after_row rows c) symbols
      ∙ rearranged_part rows l (symbols_of w s) (count_symbols w (rows * l) s some total) by_row t c)

-- one lane stands the same as rows
module _ (rows : ℕ) (s : List ℕ) (long : length s ≡ rows * 1) where
  pub one_lane_rows : rearranged lane_after_lane row_after_row rows 1 s ≡ s
  one_lane_rows =
      held_equal by_row rows 1 _ s (length_rearranged_rows rows 1 s) long
      (λ i t row lane.
      let none : t ≡ 0 = omega arith in
      rw none (held_to_rows rows 1 s i 0 row (omega arith) ∙ sym (held_by_lane rows 1 s i 0) ∙ sym (one_lane rows s i)))

  pub one_lane_lanes : rearranged row_after_row lane_after_lane rows 1 s ≡ s
  one_lane_lanes = ap (rearranged row_after_row lane_after_lane rows 1) (sym one_lane_rows) ∙ rearranged_back by_lane by_row rows 1 s long

-- so a tile of one lane is the lane
module _ (w rows : ℕ) (some : 0 < w) where
  pub lane_symbols : (s : List ℕ) → length s ≡ w * rows * 1 → tile_symbols w rows 1 s ≡ symbols_of w s
  unfolding tile_symbols
  lane_symbols s long =
      ap (λ (u : List ℕ). rearranged lane_after_lane row_after_row rows 1 (symbols_of w u)) (one_lane_lanes (w * rows) s long)
      ∙ one_lane_rows rows (symbols_of w s) (count_symbols w (rows * 1) s some (long ∙ sym (lanes_long w rows 1)))

  pub lane_bytes_lem : (xs : List ℕ) → length xs ≡ rows * 1 → tile_bytes w rows 1 xs ≡ bytes_of w xs
  unfolding tile_bytes
  lane_bytes_lem xs long =
      ap (λ (u : List ℕ). rearranged lane_after_lane row_after_row (w * rows) 1 (bytes_of w u)) (one_lane_lanes rows xs long)
      ∙ one_lane_rows (w * rows) (bytes_of w xs) (length_bytes w xs ∙ ap (λ (n : ℕ). n * w) long ∙ lanes_long w rows 1)
