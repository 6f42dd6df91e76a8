-- Sums of symbols of two bytes: row after row as numbers, which modulo p are the sums of the field.
use mathlib.Core.Path.{◌≡◌, sym, ap, ap₂, ◌∙◌}
use mathlib.Core.List.{List, [], ◌∷◌}
use Prim.Native.Nat.{ℕ, ◌+◌, ◌*◌, ◌/◌, ◌%◌, ◌≤◌, ◌<◌}
use native.Mathlib.Nat.{add-mod, zero-mod}
use native.Mathlib.Omega.{arith}
use lib.ListN.{length, get_or, drop, drop_of_length-le}
use Rattle.std.specs.List.{slice_range}
use Rattle.lists.specs.Rows.{from}
use Rattle.lists.specs.Padded.{zeros}
use Rattle.lists.proofs.Front.{drop_next}
use Rattle.lists.proofs.Rows.{get_d_part, from_ext, row_after}
use Rattle.layout.specs.Layout.{row_after_row, lane_of}
use Rattle.layout.specs.Width.{value_from}
use Rattle.layout.specs.Inner.Tiles.{tile_symbols}
use Rattle.layout.proofs.Buffers.{length_lane, get_or_lane}
use Rattle.layout.proofs.Places.{held_by_row}
use Rattle.layout.proofs.Tiles.{held_tile_symbols}
use Rattle.field.specs.Fields.{mul}
use Rattle.field.specs.Inner.Sums.{dot}
use Rattle.field.proofs.Meanings.{add_modulo, mul_modulo}
use Rattle.kernel.specs.declared.wide.Halves.{Halves as Sums}
use Rattle.kernel.specs.Inner.Halves.{pair_product, wrapped, rest_of}
use Rattle.kernel.proofs.Halves.{product16, get_or_wrapped}
use Rattle.row_sums.specs.Inner.WideSums.{product_sum, WideRows, wide_sum}
use Rattle.row_sums.proofs.Combined.{get_or_zeros}
use Rattle.row_sums.proofs.Halves.{Halves, halves_none, halves_more, halves_rest}

-- modulo p it is the sum of the field
sum_modulo : (p : ℕ) → 0 < p → (ys ws : List ℕ) → product_sum ys ws % p ≡ dot p ys ws
unfolding product_sum dot
sum_modulo p some [] ws = zero-mod p
sum_modulo p some (y ∷ ys) [] = zero-mod p
sum_modulo p some (y ∷ ys) (w ∷ ws) =
    add-mod (y * w) (product_sum ys ws) p
    ∙ ap₂ (λ (a b : ℕ). (a + b) % p) (sym (mul_modulo p some y w)) (sum_modulo p some ys ws)
    ∙ sym (add_modulo p some (mul p y w) (dot p ys ws))

module _ (rows l : ℕ) (ws s : List ℕ) where
  -- the symbols of lane t, and the sum of their products
  abbrev lane_at : ℕ → List ℕ
  lane_at t = lane_of row_after_row rows l t (tile_symbols 2 rows l s)

  abbrev pub whole_at : ℕ → ℕ
  whole_at t = product_sum (lane_at t) ws

  -- lane t of the sum over the rows from i on
  abbrev pub rest_at : ℕ → ℕ → ℕ
  rest_at i t = product_sum (drop i (lane_at t)) (drop i ws)

  -- no row is left
  rest_end : (i t : ℕ) → rows ≤ i → rest_at i t ≡ 0
  unfolding product_sum
  rest_end i t end = ap (λ (ys : List ℕ). product_sum ys (drop i ws)) (drop_of_length-le (lane_at t) {i = i} (omega (arith, length_lane row_after_row rows l t (tile_symbols 2 rows l s))))

  pub sum_end : (p : ℕ) → 0 < p → (i t sum : ℕ) → rows ≤ i → sum + rest_at i t ≡ whole_at t → sum % p ≡ wide_sum p rows l ws s t
  unfolding wide_sum
  sum_end p some i t sum end whole =
      let e : sum ≡ whole_at t = omega (arith, rest_end i t end) in
      ap (λ (x : ℕ). x % p) e ∙ sum_modulo p some (lane_at t) ws

  -- row j of bytes, as the code lends it
  abbrev pub byte_row : ℕ → List ℕ
  byte_row j = slice_range s (j * l) (j * l + l)

  -- row i of symbols: the high bytes are row 2·i of bytes, the low bytes the next one
  module _ (ready : WideRows rows l ws s) (i : ℕ) (row : i < rows) where
    abbrev pub product_of : ℕ → ℕ
    product_of t = (get_or (byte_row (2 * i)) t 0 * 256 + get_or (byte_row (2 * i + 1)) t 0) * get_or ws i 0

    symbol_is : (t : ℕ) → t < l → get_or (lane_at t) i 0 ≡ get_or (byte_row (2 * i)) t 0 * 256 + get_or (byte_row (2 * i + 1)) t 0
    unfolding from value_from
    symbol_is t lane =
        let high : i * 2 + 0 ≡ 2 * i = omega arith in
        let low : i * 2 + 1 ≡ 2 * i + 1 = omega arith in
        get_or_lane row_after_row rows l t (tile_symbols 2 rows l s) i row
        ∙ held_tile_symbols 2 rows l s i t (omega arith) row lane
        ∙ rw (held_by_row (2 * rows) l s (i * 2 + 0) t, held_by_row (2 * rows) l s (i * 2 + 1) t, high, low, get_d_part (2 * i * l) l s t lane, get_d_part ((2 * i + 1) * l) l s t lane) (omega arith)

    pub rest_next : (t : ℕ) → t < l → rest_at i t ≡ product_of t + rest_at (i + 1) t
    unfolding product_sum
    rest_next t lane =
        let column : i < length (lane_at t) = omega (arith, length_lane row_after_row rows l t (tile_symbols 2 rows l s)) in
        let weight : i < length ws = omega (arith, ready.weights) in
        rw (drop_next (lane_at t) i 0 column, drop_next ws i 0 weight, symbol_is t lane)

    -- its bytes by their places in the buffer
    pub product_places : (t : ℕ) → t < l → product_of t ≡ (get_or s (2 * i * l + t) 0 * 256 + get_or s (2 * i * l + t + l) 0) * get_or ws i 0
    product_places t lane =
        let low : (2 * i + 1) * l + t ≡ 2 * i * l + t + l = omega (arith, row_after (2 * i) l) in
        rw (get_d_part (2 * i * l) l s t lane, get_d_part ((2 * i + 1) * l) l s t lane, low)

  -- Blocks of 16 lanes, from lane `at` on.
  module _ (at : ℕ) where
    -- the sums over the rows below i are held
    abbrev pub Held : ℕ → Sums → Type 0
    Held i sums = (t : ℕ) → t < 16 → Halves i (get_or sums.low.rest t 0) (get_or sums.low.upper t 0) (get_or sums.high.rest t 0) (get_or sums.high.upper t 0) (rest_at i (at + t)) (whole_at (at + t))

    -- no row yet
    pub held_none : (sums : Sums) → (sums.low.rest ≡ zeros 16) × (sums.low.upper ≡ zeros 16) → (sums.high.rest ≡ zeros 16) × (sums.high.upper ≡ zeros 16) → Held 0 sums
    held_none sums low high t lane =
        rw (low.0, low.1, high.0, high.1, get_or_zeros 16 t lane) (halves_none (whole_at (at + t)))

    -- row i more, of which parts are lent
    module _ (ready : WideRows rows l ws s) (block : at + 16 ≤ l) (i : ℕ) (row : i < rows) (high_bytes : (x : ℕ) → get_or (byte_row (2 * i)) x 0 ≤ 255) (low_bytes : (x : ℕ) → get_or (byte_row (2 * i + 1)) x 0 ≤ 255) (two_bytes : get_or ws i 0 < 65536) where
      abbrev high : List ℕ
      high = slice_range (byte_row (2 * i)) at (at + 16)

      abbrev low : List ℕ
      low = slice_range (byte_row (2 * i + 1)) at (at + 16)

      -- the product in each lane
      abbrev product_at : ℕ → ℕ
      product_at t = pair_product (get_or ws i 0) high low t

      product_is : (t : ℕ) → t < 16 → product_at t ≡ product_of ready i row (at + t)
      unfolding pair_product
      product_is t lane = rw (get_d_part at 16 (byte_row (2 * i)) t lane, get_d_part at 16 (byte_row (2 * i + 1)) t lane)

      product_fits : (t : ℕ) → t < 16 → product_at t ≤ 4294836225
      product_fits t lane =
          rw (product_is t lane) (product16 _ _ (omega (arith, high_bytes (at + t), low_bytes (at + t))) two_bytes)

      pub held_row : (sums now : Sums) → now.low.rest ≡ wrapped (λ t. product_at t % 65536) sums.low.rest → now.low.upper ≡ wrapped (λ t. product_at t % 65536 / 256) sums.low.upper → now.high.rest ≡ wrapped (λ t. product_at t / 65536) sums.high.rest → now.high.upper ≡ wrapped (λ t. product_at t / 65536 / 256) sums.high.upper → Held i sums → Held (i + 1) now
      held_row sums now low_rest low_upper high_rest high_upper h t lane =
          let next : rest_at i (at + t) ≡ product_at t + rest_at (i + 1) (at + t) = rest_next ready i row (at + t) (omega arith) ∙ ap (λ (x : ℕ). x + rest_at (i + 1) (at + t)) (sym (product_is t lane)) in
          rw (low_rest, low_upper, high_rest, high_upper, get_or_wrapped _ sums.low.rest sums.low.rest_lanes t lane, get_or_wrapped _ sums.low.upper sums.low.upper_lanes t lane, get_or_wrapped _ sums.high.rest sums.high.rest_lanes t lane, get_or_wrapped _ sums.high.upper sums.high.upper_lanes t lane)
          (halves_more i _ _ _ _ (product_at t) (rest_at (i + 1) (at + t)) (whole_at (at + t)) (omega (arith, ready.few)) (product_fits t lane) (rw next at (h t lane)))

    -- all rows
    pub held_all : (p : ℕ) → 0 < p → (i : ℕ) → rows ≤ i → i ≤ 255 → (sums : Sums) → Held i sums → from (λ t. rest_of p (get_or sums.low.rest t 0) (get_or sums.low.upper t 0) (get_or sums.high.rest t 0) (get_or sums.high.upper t 0)) 0 16 ≡ from (λ t. wide_sum p rows l ws s (at + t)) 0 16
    unfolding wide_sum
    held_all p some i end few sums h =
        from_ext _ _ 0 16
        (λ t none lane.
        let inside : t < 16 = omega arith in
        halves_rest p i _ _ _ _ (whole_at (at + t)) few (rw (rest_end i (at + t) end) at (h t inside))
        ∙ sum_modulo p some (lane_at (at + t)) ws)
