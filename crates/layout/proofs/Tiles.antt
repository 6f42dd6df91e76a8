-- Tiles: what a row holds in a lane, gathering and scattering, and tiles of symbols of one byte.
use mathlib.Core.Path.{◌≡◌, sym, ap, ◌∙◌}
use mathlib.Core.List.{List, ◌++◌}
use mathlib.Core.Logic.{by_cases}
use Prim.Native.Nat.{ℕ, ◌+◌, ◌*◌, ◌/◌, ◌%◌, ◌<◌}
use native.Mathlib.Decide.{ℕ_discrete}
use native.Mathlib.Nat.{two-mul, zero-add, zero-mul, add-mul, mul_assoc, mul_comm, mul-one, one-mul, mul-div_cancel, div-lt_iff_lt-mul, mod-lt, div-add-mod'}
use native.Mathlib.Omega.{arith}
use lib.Arith.{digits_lt}
use lib.ListN.{length, get_or, length-append, get_or-append}
use lib.Seq.{get_or-append-add}
use Rattle.std.proofs.lemmas.Nat.{mul-add-lt}
use Rattle.lists.specs.Rows.{from, rows_from}
use Rattle.lists.proofs.Rows.{from_ext, length_from, get_or_from}
use Rattle.lists.proofs.Lanes.{get_d_rows, length_rows}
use Rattle.layout.specs.Layout.{row_after_row, lane_after_lane, held, rearranged}
use Rattle.layout.specs.Width.{value_from, symbols_of, symbol_bytes, bytes_of}
use Rattle.layout.specs.Inner.Tiles.{tile_symbols, tile_bytes}
use Rattle.layout.proofs.Lawful.{by_row, by_lane}
use Rattle.layout.proofs.Buffers.{length_buffer, held_buffer, held_equal, rearranged_back}
use Rattle.layout.proofs.Places.{held_by_row, held_by_lane}
use Rattle.layout.proofs.Widths.{length_symbols, get_or_symbols, length_bytes, symbols_one, bytes_one}
use Rattle.layout.proofs.Readings.{symbol_inside, symbol_digits, get_or_bytes}

module _ (rows l : ℕ) (s : List ℕ) where
  -- what a rearranged buffer holds
  pub length_rearranged_lanes : length (rearranged row_after_row lane_after_lane rows l s) ≡ rows * l
  unfolding rearranged
  length_rearranged_lanes = length_buffer lane_after_lane rows l (held row_after_row rows l s)

  pub length_rearranged_rows : length (rearranged lane_after_lane row_after_row rows l s) ≡ rows * l
  unfolding rearranged
  length_rearranged_rows = length_buffer row_after_row rows l (held lane_after_lane rows l s)

  pub held_to_lanes : (i t : ℕ) → i < rows → t < l → get_or (rearranged row_after_row lane_after_lane rows l s) (t * rows + i) 0 ≡ held row_after_row rows l s i t
  unfolding rearranged
  held_to_lanes i t hi ht = sym (held_by_lane rows l _ i t) ∙ held_buffer by_lane rows l (held row_after_row rows l s) i t hi ht

  pub held_to_rows : (i t : ℕ) → i < rows → t < l → held row_after_row rows l (rearranged lane_after_lane row_after_row rows l s) i t ≡ get_or s (t * rows + i) 0
  unfolding rearranged
  held_to_rows i t hi ht = held_buffer by_row rows l (held lane_after_lane rows l s) i t hi ht ∙ held_by_lane rows l s i t

-- byte v of symbol i of lane t, in a lane of w bytes for each of the rows
pub byte_place : (w rows i t v : ℕ) → (t * rows + i) * w + v ≡ t * (w * rows) + (i * w + v)
byte_place w rows i t v =
    let e : (t * rows + i) * w ≡ t * rows * w + i * w = add-mul (t * rows) i w in
    let f : t * rows * w ≡ t * (w * rows) = mul_assoc t rows w ∙ ap (λ (x : ℕ). t * x) (mul_comm rows w) in
    omega (arith, e, f)

-- w times so many bytes are so many symbols
pub many_symbols : (w rows l : ℕ) (s : List ℕ) → 0 < w → length s ≡ w * rows * l → length s / w ≡ rows * l
many_symbols w rows l s some long =
    let e : w * rows * l ≡ rows * l * w = mul_assoc w rows l ∙ mul_comm w (rows * l) in
    ap (λ (n : ℕ). n / w) (long ∙ e) ∙ mul-div_cancel (rows * l) some

module _ (w rows l : ℕ) where
  pub length_tile_symbols : (s : List ℕ) → length (tile_symbols w rows l s) ≡ rows * l
  unfolding tile_symbols
  length_tile_symbols s = length_rearranged_rows rows l (symbols_of w (rearranged row_after_row lane_after_lane (w * rows) l s))

  pub length_tile_bytes : (xs : List ℕ) → length (tile_bytes w rows l xs) ≡ w * rows * l
  unfolding tile_bytes
  length_tile_bytes xs = length_rearranged_rows (w * rows) l (bytes_of w (rearranged row_after_row lane_after_lane rows l xs))

  -- a symbol is made of the bytes in its w rows
  pub held_tile_symbols : (s : List ℕ) (i t : ℕ) → 0 < w → i < rows → t < l → held row_after_row rows l (tile_symbols w rows l s) i t ≡ value_from 0 (from (λ v. held row_after_row (w * rows) l s (i * w + v) t) 0 w)
  unfolding tile_symbols
  held_tile_symbols s i t some hi ht =
      let P = rearranged row_after_row lane_after_lane (w * rows) l s in
      let long = length_rearranged_lanes (w * rows) l s in
      let count = many_symbols w rows l P some long in
      let less : t * rows + i < length P / w = rw count (mul-add-lt t rows i l ht hi) in
      held_to_rows rows l (symbols_of w P) i t hi ht
      ∙ get_or_symbols w P (t * rows + i) less
      ∙ symbol_digits w P (t * rows + i) (symbol_inside w P (t * rows + i) some less)
      ∙ ap (value_from 0)
      (from_ext _ _ 0 w
      (λ v low high.
      ap (λ (x : ℕ). get_or P x 0) (byte_place w rows i t v)
      ∙ held_to_lanes (w * rows) l s (i * w + v) t (mul-add-lt i w v rows hi (omega arith)) ht))

  -- and a tile's rows are the bytes of its symbols
  pub held_tile_bytes : (xs : List ℕ) (i v t : ℕ) → i < rows → v < w → t < l → held row_after_row (w * rows) l (tile_bytes w rows l xs) (i * w + v) t ≡ get_or (symbol_bytes w (held row_after_row rows l xs i t)) v 0
  unfolding tile_bytes
  held_tile_bytes xs i v t hi hv ht =
      let X = rearranged row_after_row lane_after_lane rows l xs in
      let less : t * rows + i < length X = rw (length_rearranged_lanes rows l xs) (mul-add-lt t rows i l ht hi) in
      held_to_rows (w * rows) l (bytes_of w X) (i * w + v) t (mul-add-lt i w v rows hi hv) ht
      ∙ ap (λ (x : ℕ). get_or (bytes_of w X) x 0) (sym (byte_place w rows i t v))
      ∙ get_or_bytes w X (t * rows + i) v less hv
      ∙ ap (λ (x : ℕ). get_or (symbol_bytes w x) v 0) (held_to_lanes rows l xs i t hi ht)

  -- lanes that are gathered into a tile
  pub tile_gathered : (s : List ℕ) → length s ≡ w * rows * l → tile_symbols w rows l (rearranged lane_after_lane row_after_row (w * rows) l s) ≡ rearranged lane_after_lane row_after_row rows l (symbols_of w s)
  unfolding tile_symbols
  tile_gathered s long = ap (λ (p : List ℕ). rearranged lane_after_lane row_after_row rows l (symbols_of w p)) (rearranged_back by_lane by_row (w * rows) l s long)

  -- a tile that is scattered to lanes
  pub tile_scattered : (xs : List ℕ) → rearranged row_after_row lane_after_lane (w * rows) l (tile_bytes w rows l xs) ≡ bytes_of w (rearranged row_after_row lane_after_lane rows l xs)
  unfolding tile_bytes
  tile_scattered xs =
      let X = rearranged row_after_row lane_after_lane rows l xs in
      let e : rows * l * w ≡ w * rows * l = mul_comm (rows * l) w ∙ sym (mul_assoc w rows l) in
      rearranged_back by_lane by_row (w * rows) l (bytes_of w X) (length_bytes w X ∙ ap (λ (n : ℕ). n * w) (length_rearranged_lanes rows l xs) ∙ e)

-- one row rearranged is as it was
pub one_row : (l : ℕ) (s : List ℕ) → length s ≡ l → rearranged lane_after_lane row_after_row 1 l s ≡ s
one_row l s long =
    held_equal by_row 1 l _ s (length_rearranged_rows 1 l s) (long ∙ sym (one-mul l))
    (λ i t hi ht.
    let place : t * 1 + i ≡ i * l + t = place_one i t hi in
    held_to_rows 1 l s i t hi ht ∙ ap (λ (x : ℕ). get_or s x 0) place ∙ sym (held_by_row 1 l s i t))
  where
    place_one : (i t : ℕ) → i < 1 → t * 1 + i ≡ i * l + t
    place_one i t hi = let none : i ≡ 0 = omega arith in rw none (omega arith)

pub one_row_back : (l : ℕ) (s : List ℕ) → length s ≡ l → rearranged row_after_row lane_after_lane 1 l s ≡ s
one_row_back l s long =
    ap (rearranged row_after_row lane_after_lane 1 l) (sym (one_row l s long)) ∙ rearranged_back by_lane by_row 1 l s (long ∙ sym (one-mul l))

-- a tile of one row of symbols
pub row_symbols : (w l : ℕ) (s : List ℕ) → 0 < w → length s ≡ w * l → tile_symbols w 1 l (rearranged lane_after_lane row_after_row w l s) ≡ symbols_of w s
row_symbols w l s some long =
    let e : length s ≡ w * 1 * l = long ∙ ap (λ (x : ℕ). x * l) (sym (mul-one w)) in
    let count : length (symbols_of w s) ≡ l = length_symbols w s ∙ many_symbols w 1 l s some e ∙ one-mul l in
    ap (λ (x : ℕ). tile_symbols w 1 l (rearranged lane_after_lane row_after_row x l s)) (sym (mul-one w))
    ∙ tile_gathered w 1 l s e
    ∙ one_row l (symbols_of w s) count

pub row_bytes : (w l : ℕ) (xs : List ℕ) → length xs ≡ l → rearranged row_after_row lane_after_lane w l (tile_bytes w 1 l xs) ≡ bytes_of w xs
row_bytes w l xs long =
    ap (λ (x : ℕ). rearranged row_after_row lane_after_lane x l (tile_bytes w 1 l xs)) (sym (mul-one w))
    ∙ tile_scattered w 1 l xs
    ∙ ap (bytes_of w) (one_row_back l xs long)

-- tiles of symbols of one byte are the symbols
pub tile_symbols_one : (rows l : ℕ) (s : List ℕ) → length s ≡ rows * l → tile_symbols 1 rows l s ≡ s
unfolding tile_symbols
tile_symbols_one rows l s long =
    ap (rearranged lane_after_lane row_after_row rows l) (symbols_one (rearranged row_after_row lane_after_lane (1 * rows) l s) ∙ ap (λ (x : ℕ). rearranged row_after_row lane_after_lane x l s) (one-mul rows))
    ∙ rearranged_back by_row by_lane rows l s long

pub tile_bytes_one : (rows l : ℕ) (xs : List ℕ) → length xs ≡ rows * l → tile_bytes 1 rows l xs ≡ xs
unfolding tile_bytes
tile_bytes_one rows l xs long =
    ap (rearranged lane_after_lane row_after_row (1 * rows) l) (bytes_one (rearranged row_after_row lane_after_lane rows l xs))
    ∙ ap (λ (x : ℕ). rearranged lane_after_lane row_after_row x l (rearranged row_after_row lane_after_lane rows l xs)) (one-mul rows)
    ∙ rearranged_back by_row by_lane rows l xs long

-- Tiles of one row of symbols, one after the other, are a tile.
module _ (w rows l : ℕ) (some : 0 < w) where
  -- the place of byte v of row i
  part_place : (i v t : ℕ) → (i * w + v) * l + t ≡ i * (w * l) + (v * l + t)
  part_place i v t = let e : (i * w + v) * l ≡ i * w * l + v * l = add-mul (i * w) v l in omega (arith, e, mul_assoc i w l)

  -- row r of bytes is byte r % w of row r / w of symbols
  row_parts : (r : ℕ) → r < w * rows → (r / w < rows) × (r % w < w) × (r / w * w + r % w ≡ r)
  row_parts r h = ((div-lt_iff_lt-mul some).1 (rw (mul_comm w rows) at h), mod-lt r some, div-add-mod' r w)

  module _ (g : ℕ → List ℕ) (long : (i : ℕ) → length (g i) ≡ l) where
    -- what row i holds
    rows_held : (i t : ℕ) → i < rows → t < l → held row_after_row rows l (rows_from g 0 rows) i t ≡ held row_after_row 1 l (g i) 0 t
    rows_held i t hi ht =
        let none : 0 * l + t ≡ t = omega (arith, zero-mul l) in
        held_by_row rows l (rows_from g 0 rows) i t
        ∙ get_d_rows g l long 0 rows i t hi ht
        ∙ ap (λ (x : ℕ). get_or (g x) t 0) (zero-add i)
        ∙ sym (held_by_row 1 l (g i) 0 t ∙ ap (λ (x : ℕ). get_or (g i) x 0) none)

    bytes_part : (i : ℕ) → length (tile_bytes w 1 l (g i)) ≡ w * l
    bytes_part i = length_tile_bytes w 1 l (g i) ∙ ap (λ (x : ℕ). x * l) (mul-one w)

    -- what byte v of row i holds, row by row
    bytes_held : (i v t : ℕ) → i < rows → v < w → t < l → held row_after_row (w * rows) l (rows_from (λ i. tile_bytes w 1 l (g i)) 0 rows) (i * w + v) t ≡ get_or (symbol_bytes w (held row_after_row 1 l (g i) 0 t)) v 0
    bytes_held i v t hi hv ht =
        let within : v * l + t < w * l = digits_lt hv ht in
        let first : 0 * w + v ≡ v = omega (arith, zero-mul w) in
        held_by_row (w * rows) l _ (i * w + v) t
        ∙ ap (λ (x : ℕ). get_or (rows_from (λ i. tile_bytes w 1 l (g i)) 0 rows) x 0) (part_place i v t)
        ∙ get_d_rows (λ i. tile_bytes w 1 l (g i)) (w * l) bytes_part 0 rows i (v * l + t) hi within
        ∙ ap (λ (x : ℕ). get_or (tile_bytes w 1 l (g x)) (v * l + t) 0) (zero-add i)
        ∙ sym (held_by_row (w * 1) l (tile_bytes w 1 l (g i)) (0 * w + v) t ∙ ap (λ (x : ℕ). get_or (tile_bytes w 1 l (g i)) (x * l + t) 0) first)
        ∙ held_tile_bytes w 1 l (g i) 0 v t (omega arith) hv ht

  -- and read so
  module _ (g : ℕ → List ℕ) (long : (i : ℕ) → length (g i) ≡ w * l) where
    pub rows_tile : tile_symbols w rows l (rows_from g 0 rows) ≡ rows_from (λ i. tile_symbols w 1 l (g i)) 0 rows
    rows_tile =
        let one : (i : ℕ) → length (tile_symbols w 1 l (g i)) ≡ l = λ i. length_tile_symbols w 1 l (g i) ∙ one-mul l in
        held_equal by_row rows l _ _ (length_tile_symbols w rows l (rows_from g 0 rows)) (length_rows (λ i. tile_symbols w 1 l (g i)) l one 0 rows)
        (λ i t hi ht.
        held_tile_symbols w rows l (rows_from g 0 rows) i t some hi ht
        ∙ ap (value_from 0) (from_ext _ _ 0 w (λ v low high. byte_held i v t hi (omega arith) ht))
        ∙ sym (held_tile_symbols w 1 l (g i) 0 t some (omega arith) ht)
        ∙ sym (rows_held (λ i. tile_symbols w 1 l (g i)) one i t hi ht))
      where
        byte_held : (i v t : ℕ) → i < rows → v < w → t < l → held row_after_row (w * rows) l (rows_from g 0 rows) (i * w + v) t ≡ held row_after_row (w * 1) l (g i) (0 * w + v) t
        byte_held i v t hi hv ht =
            let within : v * l + t < w * l = digits_lt hv ht in
            let first : 0 * w + v ≡ v = omega (arith, zero-mul w) in
            held_by_row (w * rows) l _ (i * w + v) t
            ∙ ap (λ (x : ℕ). get_or (rows_from g 0 rows) x 0) (part_place i v t)
            ∙ get_d_rows g (w * l) long 0 rows i (v * l + t) hi within
            ∙ ap (λ (x : ℕ). get_or (g x) (v * l + t) 0) (zero-add i)
            ∙ sym (held_by_row (w * 1) l (g i) (0 * w + v) t ∙ ap (λ (x : ℕ). get_or (g i) (x * l + t) 0) first)

-- a row of symbols of two bytes is a row of high bytes and a row of low bytes
pub tile_pair : (l : ℕ) (xs : List ℕ) → tile_bytes 2 1 l xs ≡ from (λ t. get_or xs t 0 / 256) 0 l ++ from (λ t. get_or xs t 0 % 256) 0 l
unfolding symbol_bytes
tile_pair l xs =
    held_equal by_row (2 * 1) l _ _ (length_tile_bytes 2 1 l xs)
    (length-append high low ∙ omega (arith, length_from (λ t. get_or xs t 0 / 256) 0 l, length_from (λ t. get_or xs t 0 % 256) 0 l, one-mul l, two-mul l))
    (λ v t hv ht. by_cases (ℕ_discrete v 0) (λ e. rw e (first t ht)) (λ n. let e : v ≡ 1 = omega arith in rw e (second t ht)))
  where
    high : List ℕ
    high = from (λ t. get_or xs t 0 / 256) 0 l

    low : List ℕ
    low = from (λ t. get_or xs t 0 % 256) 0 l

    symbol : (t : ℕ) → held row_after_row 1 l xs 0 t ≡ get_or xs t 0
    symbol t = let none : 0 * l + t ≡ t = omega (arith, zero-mul l) in held_by_row 1 l xs 0 t ∙ ap (λ (x : ℕ). get_or xs x 0) none

    first : (t : ℕ) → t < l → held row_after_row (2 * 1) l (tile_bytes 2 1 l xs) 0 t ≡ held row_after_row (2 * 1) l (high ++ low) 0 t
    first t ht =
        let none : 0 * l + t ≡ t = omega (arith, zero-mul l) in
        held_tile_bytes 2 1 l xs 0 0 t (omega arith) (omega arith) ht
        ∙ ap (λ (x : ℕ). x / 256) (symbol t)
        ∙ sym (held_by_row (2 * 1) l (high ++ low) 0 t
        ∙ ap (λ (x : ℕ). get_or (high ++ low) x 0) none
        ∙ get_or-append high low 0 t (omega (arith, length_from (λ t. get_or xs t 0 / 256) 0 l))
        ∙ rw zero-add at (get_or_from (λ t. get_or xs t 0 / 256) 0 l t 0 ht))

    second : (t : ℕ) → t < l → held row_after_row (2 * 1) l (tile_bytes 2 1 l xs) 1 t ≡ held row_after_row (2 * 1) l (high ++ low) 1 t
    second t ht =
        let place : 1 * l + t ≡ length high + t = omega (arith, one-mul l, length_from (λ t. get_or xs t 0 / 256) 0 l) in
        held_tile_bytes 2 1 l xs 0 1 t (omega arith) (omega arith) ht
        ∙ ap (λ (x : ℕ). x % 256) (symbol t)
        ∙ sym (held_by_row (2 * 1) l (high ++ low) 1 t
        ∙ ap (λ (x : ℕ). get_or (high ++ low) x 0) place
        ∙ get_or-append-add high low t 0
        ∙ rw zero-add at (get_or_from (λ t. get_or xs t 0 % 256) 0 l t 0 ht))
