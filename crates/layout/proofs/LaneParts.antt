-- One lane of a buffer that stands lane after lane is a part of its bytes: read as symbols, and written.
use mathlib.Core.Path.{◌≡◌, refl, sym, ap, ap₂, ◌∙◌}
use mathlib.Core.Bool.{true}
use mathlib.Core.List.{List, [], ◌∷◌, ◌++◌, append_assoc}
use Prim.Native.Nat.{ℕ, zero, suc, ◌+◌, ◌-◌, ◌*◌, ◌/◌, ◌≤◌, ◌<◌}
use native.Mathlib.Nat.{suc-mul, zero-mul, mul_assoc, mul_comm, mul-div_cancel}
use native.Mathlib.Omega.{arith}
use lib.ListN.{length, get_or, take, drop}
use lib.Seq.{take-nil, take-append-add}
use Rattle.lists.specs.Numbers.{all_below}
use Rattle.lists.specs.Rows.{from, rows_from}
use Rattle.std.proofs.lemmas.Nat.{mul-add-lt}
use Rattle.lists.proofs.Rows.{from_ext, row_inside, part_length, get_d_part}
use Rattle.layout.specs.Layout.{lane_after_lane, lane_of}
use Rattle.layout.specs.Width.{value_from, symbol_at, symbols_of, symbol_bytes, bytes_of}
use Rattle.layout.proofs.Places.{held_by_lane}
use Rattle.layout.proofs.Widths.{get_or_symbols, length_symbol, drop_bytes, symbols_bytes}
use Rattle.layout.proofs.Readings.{symbol_inside, symbol_digits, bytes_symbols}
use Rattle.layout.proofs.Tiles.{byte_place, many_symbols}

-- the bytes of the lanes, counted as the conditions of length do
pub lanes_long : (w rows l : ℕ) → rows * l * w ≡ w * rows * l
lanes_long w rows l = mul_comm (rows * l) w ∙ sym (mul_assoc w rows l)

module _ (w rows l t : ℕ) (s : List ℕ) (long : length s ≡ w * rows * l) (inside : t < l) where
  -- a lane's bytes lie within the buffer
  pub lane_inside : t * (w * rows) + w * rows ≤ length s
  lane_inside = rw (long, mul_comm (w * rows) l) (row_inside l t (w * rows) inside)

  -- the symbols of a lane's bytes are the lane
  pub lane_part : 0 < w → symbols_of w (take (t * (w * rows) + w * rows - t * (w * rows)) (drop (t * (w * rows)) s)) ≡ lane_of lane_after_lane rows l t (symbols_of w s)
  unfolding symbols_of lane_of
  lane_part some =
      let a = t * (w * rows) in
      let part = take (a + w * rows - a) (drop a s) in
      let size : length part ≡ w * rows = part_length a (w * rows) s lane_inside in
      let count : length part / w ≡ rows = ap (λ (n : ℕ). n / w) (size ∙ mul_comm w rows) ∙ mul-div_cancel rows some in
      ap (from (symbol_at w part) 0) count
      ∙ from_ext (symbol_at w part) _ 0 rows
      (λ i low high.
      let hi : i < rows = omega arith in
      let less : t * rows + i < length s / w = rw (many_symbols w rows l s some long) (mul-add-lt t rows i l inside hi) in
      symbol_digits w part i (rw size (rw (mul_comm w rows) (row_inside rows i w hi)))
      ∙ ap (value_from 0)
      (from_ext _ _ 0 w
      (λ v low' high'.
      get_d_part a (w * rows) s (i * w + v) (mul-add-lt i w v rows hi (omega arith))
      ∙ ap (λ (x : ℕ). get_or s x 0) (sym (byte_place w rows i t v))))
      ∙ sym (symbol_digits w s (t * rows + i) (symbol_inside w s (t * rows + i) some less))
      ∙ sym (get_or_symbols w s (t * rows + i) less)
      ∙ sym (held_by_lane rows l (symbols_of w s) i t))

-- bytes of joined symbols, and of the first ones
bytes_append : (w : ℕ) (xs ys : List ℕ) → bytes_of w (xs ++ ys) ≡ bytes_of w xs ++ bytes_of w ys
unfolding bytes_of
bytes_append w [] ys = refl
bytes_append w (x ∷ xs) ys = ap (λ (l : List ℕ). symbol_bytes w x ++ l) (bytes_append w xs ys) ∙ sym (append_assoc (symbol_bytes w x) (bytes_of w xs) (bytes_of w ys))

take_bytes : (w i : ℕ) (xs : List ℕ) → take (i * w) (bytes_of w xs) ≡ bytes_of w (take i xs)
unfolding bytes_of
take_bytes w zero xs = rw (zero-mul w)
take_bytes w (suc i) [] = take-nil (suc i * w)
take_bytes w (suc i) (x ∷ xs) =
    let e : suc i * w ≡ length (symbol_bytes w x) + i * w = omega (arith, suc-mul i w, length_symbol w x) in
    rw (e, take-append-add (symbol_bytes w x) (bytes_of w xs) (i * w)) (ap (λ (l : List ℕ). symbol_bytes w x ++ l) (take_bytes w i xs))

-- bytes of rows one after the other
pub bytes_rows : (w : ℕ) (g : ℕ → List ℕ) (i n : ℕ) → rows_from (λ j. bytes_of w (g j)) i n ≡ bytes_of w (rows_from g i n)
unfolding rows_from bytes_of
bytes_rows w g i zero = refl
bytes_rows w g i (suc n) = ap (λ (l : List ℕ). bytes_of w (g i) ++ l) (bytes_rows w g (i + 1) n) ∙ sym (bytes_append w (g i) (rows_from g (i + 1) n))

-- a part of the bytes of symbols
pub bytes_part : (w a k : ℕ) (xs : List ℕ) → take (k * w) (drop (a * w) (bytes_of w xs)) ≡ bytes_of w (take k (drop a xs))
bytes_part w a k xs = ap (take (k * w)) (drop_bytes w a xs) ∙ take_bytes w k (drop a xs)

-- replaced by the bytes of other symbols
pub bytes_replaced : (w a k : ℕ) (ys xs : List ℕ) → take (a * w) (bytes_of w xs) ++ (bytes_of w ys ++ drop (k * w) (drop (a * w) (bytes_of w xs))) ≡ bytes_of w (take a xs ++ (ys ++ drop k (drop a xs)))
bytes_replaced w a k ys xs =
    ap₂ (λ (x y : List ℕ). x ++ (bytes_of w ys ++ y)) (take_bytes w a xs) (ap (drop (k * w)) (drop_bytes w a xs) ∙ drop_bytes w k (drop a xs))
    ∙ sym (bytes_append w (take a xs) (ys ++ drop k (drop a xs)) ∙ ap (λ (z : List ℕ). bytes_of w (take a xs) ++ z) (bytes_append w ys (drop k (drop a xs))))

-- the same of bytes that are read as symbols
module _ (w count : ℕ) (s : List ℕ) (some : 0 < w) (long : length s ≡ count * w) (low : all_below 256 s ≡ true) where
  whole : bytes_of w (symbols_of w s) ≡ s
  whole = bytes_symbols w count s some long low

  pub symbols_part : (a k : ℕ) → symbols_of w (take (k * w) (drop (a * w) s)) ≡ take k (drop a (symbols_of w s))
  symbols_part a k =
      ap (λ (u : List ℕ). symbols_of w (take (k * w) (drop (a * w) u))) (sym whole)
      ∙ ap (symbols_of w) (bytes_part w a k (symbols_of w s))
      ∙ symbols_bytes w (take k (drop a (symbols_of w s))) some

  pub symbols_replaced : (a k : ℕ) (ys : List ℕ) → take (a * w) s ++ (bytes_of w ys ++ drop (k * w) (drop (a * w) s)) ≡ bytes_of w (take a (symbols_of w s) ++ (ys ++ drop k (drop a (symbols_of w s))))
  symbols_replaced a k ys =
      ap (λ (u : List ℕ). take (a * w) u ++ (bytes_of w ys ++ drop (k * w) (drop (a * w) u))) (sym whole)
      ∙ bytes_replaced w a k ys (symbols_of w s)
