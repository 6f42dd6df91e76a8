-- Squares of 16 by 16: read from rows, put into rows, and the loops over squares.
use Rattle.std.proofs.Common.{◌≡◌, sym, ap, ◌∙◌, List, ◌++◌, ℕ, ◌+◌, ◌-◌, ◌*◌, ◌/◌, ◌%◌, ◌≤◌, ◌<◌, add-mul, mul_comm, mul-le-mul, le_refl, arith, ltb-true, ltb-false, ltb, length, get_or, take, drop, length-drop, ext_get_or, get_or-drop}
use lib.Lanes.{chunk, put_chunk}
use Rattle.std.proofs.lemmas.Simd.{length-chunk, length-put_chunk, get_or-chunk, get_or-put_chunk_below, get_or-put_chunk_at, get_or-put_chunk_above}
use Rattle.lists.proofs.Cases.{by_test}
use Rattle.lists.specs.Rows.{rows_from}
use Rattle.lists.proofs.Rows.{from_ext, rows_ext, row_inside, part_rest}
use Rattle.lists.proofs.Lanes.{low_sixteen}
use Rattle.tiles.specs.Inner.Squares.{placed, turned, square_at, as_lanes, as_rows, Squared, TurnedTo}
use Rattle.layout.specs.Layout.{row_after_row, lane_after_lane, lane_of}
use Rattle.layout.proofs.Places.{held_by_row, held_by_lane, lanes_whole}
use Rattle.layout.proofs.Runs.{replaced, length_replaced, replaced_inside, replaced_before}
use Rattle.tiles.proofs.Shuffles.{length_placed, get_or_placed}

split_high : (a b : ℕ) → b < 16 → (a * 16 + b) / 16 ≡ a
split_high a b h = omega arith

-- the place of a square's byte in the rows
abbrev pub square_byte : ℕ → ℕ → List ℕ → ℕ → ℕ
square_byte width first rows p = get_or rows (p / 16 * width + (first + p % 16)) 0

pub square_row : (width first : ℕ) (rows : List ℕ) (i p : ℕ) → p < 16 → get_or (chunk (i * width + first) 16 rows) p 0 ≡ square_byte width first rows (i * 16 + p)
square_row width first rows i p h =
    let place : i * width + first + p ≡ i * width + (first + p) = omega arith in
    get_or-chunk (i * width + first) 16 rows p 0 h ∙ rw (split_high i p h, low_sixteen i p h) (ap (λ (q : ℕ). get_or rows q 0) place)

-- row i of 16 rows of which the last has 16 bytes from `first` on
pub row_fits : (width first i size : ℕ) → i < 16 → 15 * width + first + 16 ≤ size → i * width + first + 16 ≤ size
row_fits width first i size h fits = omega (arith, row_inside 16 i width h)

-- of columns that become rows with `count` bytes, the last 16 lie in the buffer
pub columns_left : (columns first to count size : ℕ) → first + 16 ≤ columns → columns * to + count ≤ size + to → ((first + 16) * to + count ≤ size + to) × (first * to + 15 * to + count ≤ size)
columns_left columns first to count size low fits =
    let under : (first + 16) * to ≤ columns * to = mul-le-mul low (le_refl to) in
    (omega (arith, under), omega (arith, under, add-mul first 16 to))

-- a place in a row further on
row_place : (at p r width x : ℕ) → at + p ≡ r → at * width + (p * width + x) ≡ r * width + x
row_place at p r width x e = rw (← e, add-mul) (omega arith)

-- two rows
rows_apart : (width i r : ℕ) → i < r → i * width + width ≤ r * width
rows_apart width i r h = row_inside r i width h

-- a row of the square is put
module _ (a : List ℕ) (width first : ℕ) (start : List ℕ) (a_long : length a ≡ 256) (long : 15 * width + first + 16 ≤ length start) where
  pub squared_row : (i : ℕ) (now : List ℕ) → i < 16 → Squared width i a first start now → Squared width (i + 1) a first start (put_chunk (i * width + first) now (chunk (i * 16) 16 a))
  squared_row i now h s =
      record {
        long = length-put_chunk at now xs ∙ s.long;
        put = λ r t below lane inside.
            by_test (ltb r i)
            (λ e. let lower : r < i = ltb-true r i e in before (r * width + (first + t)) (omega (arith, rows_apart width r i lower)) ∙ s.put r t lower lane inside)
            (λ e.
            let same : r ≡ i = omega (arith, ltb-false r i e) in
            let place : i * width + (first + t) ≡ at + t = omega arith in
            rw (same, place) (get_or-put_chunk_at at now xs t 0 (omega (arith, size)) (omega (arith, size, fits)) ∙ get_or-chunk (i * 16) 16 a t 0 lane));
        kept = λ room r t row lane.
            by_test (ltb i r)
            (λ e.
            let higher : i < r = ltb-true i r e in
            get_or-put_chunk_above at now xs (r * width + t) 0 (omega (arith, size, rows_apart width i r higher)) ∙ s.kept room r t row lane)
            (λ e.
            let lower : r ≤ i = ltb-false i r e in
            before (r * width + t) (omega (arith, row_low r lower)) ∙ s.kept room r t row lane);
      }
    where
      at : ℕ
      at = i * width + first

      xs : List ℕ
      xs = chunk (i * 16) 16 a

      fits : at + 16 ≤ length now
      fits = omega (arith, s.long, row_fits width first i (length start) h long)

      size : length xs ≡ 16
      size = length-chunk (i * 16) 16 a (omega arith)

      row_low : (r : ℕ) → r ≤ i → r * width ≤ i * width
      row_low r low = mul-le-mul low (le_refl width)

      before : (p : ℕ) → p < at → get_or (put_chunk at now xs) p 0 ≡ get_or now p 0
      before p low = get_or-put_chunk_below at now xs p 0 low

-- the byte of a square that was turned
turned_byte : (x : List ℕ) (r t : ℕ) → r < 16 → t < 16 → get_or (turned x) (r * 16 + t) 0 ≡ get_or x (t * 16 + r) 0
unfolding turned
turned_byte x r t hr ht =
    let place : (r * 16 + t) % 16 * 16 + (r * 16 + t) / 16 ≡ t * 16 + r = omega arith in
    get_or_placed _ 256 x (r * 16 + t) (omega arith) ∙ ap (λ (q : ℕ). get_or x q 0) place

-- byte p of row t of a square that was turned is byte t of row p of the rows
square_byte_lem : (width first : ℕ) (rows : List ℕ) (t p : ℕ) → t < 16 → p < 16 → get_or (turned (square_at width first rows)) (t * 16 + p) 0 ≡ get_or rows (p * width + (first + t)) 0
unfolding square_at
square_byte_lem width first rows t p ht hp =
    turned_byte (square_at width first rows) t p ht hp
    ∙ get_or_placed _ 256 rows (p * 16 + t) (omega arith)
    ∙ rw (split_high p t ht, low_sixteen p t ht)

module _ (width to first : ℕ) (rows start : List ℕ) where
  -- 16 rows more, of which some may have been turned
  pub turned_more : (count done at : ℕ) (old now : List ℕ) → (16 < count → count ≤ to) → at ≤ done → at + 16 ≤ count → TurnedTo width to first 16 done rows start old → Squared to 16 (turned (square_at width first (drop (at * width) rows))) at old now → TurnedTo width to first 16 (at + 16) rows start now
  turned_more count done at old now room low inside o s =
      record {
        long = s.long ∙ o.long;
        holds = λ t r column row fits.
            by_test (ltb r at)
            (λ e.
            let before : r < at = ltb-true r at e in
            let enough : count ≤ to = room (omega arith) in
            s.kept (omega arith) t r column before ∙ o.holds t r column (omega arith) fits)
            (λ e.
            let later : at ≤ r = ltb-false r at e in
            let p : ℕ = r - at in
            let back : at + p ≡ r = omega arith in
            let place : at * width + (p * width + (first + t)) ≡ r * width + (first + t) = row_place at p r width (first + t) back in
            let moved : get_or now (t * to + (at + p)) 0 ≡ get_or rows (at * width + (p * width + (first + t))) 0 =
            s.put t p column (omega arith) (omega arith)
            ∙ square_byte_lem width first (drop (at * width) rows) t p column (omega arith)
            ∙ get_or-drop (at * width) rows (p * width + (first + t)) 0 in
            rw (back, place) at moved);
      }

module _ (width to count : ℕ) (rows start : List ℕ) where
  -- 16 columns more
  pub columns_more : (done first : ℕ) (old xs : List ℕ) → first ≤ done → first * to ≤ length old → (first + 16) * to + count ≤ length old + to → TurnedTo width to 0 done count rows start old → TurnedTo width to first 16 count rows (take (length old - first * to) (drop (first * to) old)) xs → TurnedTo width to 0 (first + 16) count rows start (take (first * to) old ++ (xs ++ drop (length old - first * to) (drop (first * to) old)))
  columns_more done first old xs low begun room o n =
      record {
        long = length_replaced old xs a k size fits ∙ o.long;
        holds = λ t r column row inside.
            by_test (ltb t first)
            (λ e.
            let before : t < first = ltb-true t first e in
            replaced_before old xs a k size fits (t * to + r) (omega (arith, rows_apart to t first before)) ∙ o.holds t r (omega arith) row inside)
            (λ e.
            let later : first ≤ t = ltb-false t first e in
            let q : ℕ = t - first in
            let back : first + q ≡ t = omega arith in
            let lane : q < 16 = omega arith in
            let place : a + (q * to + r) ≡ t * to + r = row_place first q t to r back in
            let column_is : r * width + (first + q) ≡ r * width + (0 + t) = omega arith in
            let low : q * to + r < k = omega (arith, rows_apart to q 16 lane, add-mul first 16 to) in
            ap (λ (x : ℕ). get_or (replaced old xs a k size fits) x 0) (sym place)
            ∙ replaced_inside old xs a k size fits (q * to + r) low
            ∙ n.holds q r lane row inside
            ∙ ap (λ (x : ℕ). get_or rows x 0) column_is);
      }
    where
      a : ℕ
      a = first * to

      k : ℕ
      k = length old - a

      fits : a + k ≤ length old
      fits = omega arith

      size : length xs ≡ k
      size = n.long ∙ rw part_rest (length-drop a old)

-- 1024 bytes in rows of w, turned as a whole into rows of c
whole_turned : (w c : ℕ) → ((p : ℕ) → p < 1024 → (p / c * c + p % c ≡ p) × (p / c < w) × (p % c < c)) → (source start now : List ℕ) → length start ≡ 1024 → TurnedTo w c 0 w c source start now → now ≡ placed (λ p. p % c * w + p / c) 1024 source
whole_turned w c split source start now long s =
    ext_get_or 0 now (placed (λ p. p % c * w + p / c) 1024 source) (s.long ∙ long ∙ sym (length_placed _ 1024 source))
    (λ p h.
    let inside : p < 1024 = omega (arith, s.long) in
    let (parts, column, row) = split p inside in
    let place : p % c * w + (0 + p / c) ≡ p % c * w + p / c = omega arith in
    ap (λ (q : ℕ). get_or now q 0) (sym parts)
    ∙ s.holds (p / c) (p % c) column row row
    ∙ ap (λ (q : ℕ). get_or source q 0) place
    ∙ sym (get_or_placed _ 1024 source p inside))

-- a block's rows as lanes, and its lanes as rows
pub lanes_turned : (tile start now : List ℕ) → length start ≡ 1024 → TurnedTo 64 16 0 64 16 tile start now → now ≡ as_lanes tile
unfolding as_lanes
lanes_turned = whole_turned 64 16 (λ p h. (omega arith, omega arith, omega arith))

pub rows_turned : (block start now : List ℕ) → length start ≡ 1024 → TurnedTo 16 64 0 16 64 block start now → now ≡ as_rows block
unfolding as_rows
rows_turned = whole_turned 16 64 (λ p h. (omega arith, omega arith, omega arith))

-- lanes that were gathered from a list that begins with the part's lanes
pub turned_in : (rows count columns : ℕ) (source part start now : List ℕ) → rows ≤ columns → count ≤ 64 → ((p : ℕ) → p < count * rows → get_or source p 0 ≡ get_or part p 0) → TurnedTo rows 64 0 columns count source start now → (t : ℕ) → t < count → lane_of row_after_row rows 64 t now ≡ lane_of lane_after_lane rows count t part
unfolding lane_of
turned_in rows count columns source part start now enough few same s t lane =
    from_ext _ _ 0 rows
    (λ i low high.
    let place : t * rows + (0 + i) ≡ t * rows + i = omega arith in
    held_by_row rows 64 now i t
    ∙ s.holds i t (omega arith) lane (omega arith)
    ∙ ap (λ (x : ℕ). get_or source x 0) place
    ∙ same (t * rows + i) (omega (arith, row_inside count t rows lane))
    ∙ sym (held_by_lane rows count part i t))

-- lanes one after the other that are columns of a tile
pub turned_out : (n count : ℕ) (tile now : List ℕ) → length now ≡ count * n → ((t i : ℕ) → t < count → i < n → get_or now (t * n + i) 0 ≡ get_or tile (i * 64 + (0 + t)) 0) → now ≡ rows_from (λ t. lane_of row_after_row n 64 t tile) 0 count
unfolding lane_of
turned_out n count tile now long same =
    sym (lanes_whole n count now (long ∙ mul_comm count n))
    ∙ rows_ext _ _ 0 count
    (λ t low high.
    from_ext _ _ 0 n
    (λ i least most.
    let place : i * 64 + (0 + t) ≡ i * 64 + t = omega arith in
    held_by_lane n count now i t
    ∙ same t i (omega arith) (omega arith)
    ∙ ap (λ (x : ℕ). get_or tile x 0) place
    ∙ sym (held_by_row n 64 tile i t)))
