-- The rows of powers times a lane's symbols are the lane's check sums, and these decide whether it is a word.
use mathlib.Core.Path.{◌≡◌, refl, sym, ap, ap₂, ◌∙◌, fun_ext}
use mathlib.Core.Bool.{Bool, true, false, ◌&&◌}
use mathlib.Core.List.{List, [], ◌∷◌, ◌++◌}
use Prim.Native.Nat.{ℕ, zero, suc, ◌+◌, ◌-◌, ◌*◌, ◌/◌, ◌%◌, ◌^◌, ◌≤◌, ◌<◌}
use native.Mathlib.Nat.{zero-add, mul-add, mul-one, mul_comm, mod-add-mod, mod-lt, mod-eq_of_lt, div-lt_iff_lt-mul, div-add-mod'}
use native.Mathlib.Numerals.{add-one}
use native.Mathlib.Omega.{arith}
use borrow.Author.Tests.{ne_eqb, le-ltb}
use lib.Dec.{eqb, ltb}
use lib.ListN.{length, get_or}
use Rattle.std.specs.Int.{w16, to_be_bytes}
use Rattle.std.specs.List.{list_all}
use Rattle.lists.specs.Numbers.{all_below}
use Rattle.lists.specs.Rows.{from, rows_from}
use Rattle.lists.proofs.Lanes.{get_d_rows, length_rows}
use Rattle.lists.proofs.Numbers.{below_cons}
use Rattle.lists.proofs.Rows.{length_from, get_or_from, from_ext, from_move, from_append}
use Rattle.layout.specs.Layout.{row_after_row, held, buffer}
use Rattle.layout.specs.Width.{symbols_of, symbol_bytes, bytes_of}
use Rattle.layout.specs.Inner.Tiles.{tile_symbols, tile_bytes}
use Rattle.layout.proofs.Lawful.{by_row}
use Rattle.layout.proofs.Buffers.{lane_buffer, length_buffer, held_buffer, held_equal, buffer_below}
use Rattle.layout.proofs.Places.{held_by_row, buffer_by_row}
use Rattle.layout.proofs.Tiles.{length_tile_symbols, length_tile_bytes, held_tile_bytes}
use Rattle.layout.proofs.TileLanes.{tile_read}
use Rattle.layout.proofs.Widths.{symbols_bytes}
use Rattle.field.specs.Fields.{add, power}
use Rattle.field.specs.Inner.Sums.{dot}
use Rattle.field.proofs.BothKinds.{arithmetic}
use Rattle.field.proofs.Bounds.{power_below}
use Rattle.generator.specs.declared.Header.{Header}
use Rattle.generator.specs.Records.{modulus_of, size, width, Sound}
use Rattle.generator.specs.Codewords.{check_from, checks_from, is_word}
use Rattle.generator.proofs.Widths.{width_some}
use Rattle.row_sums.specs.Inner.Combined.{combined, combined_bytes, WeightedRows}
use Rattle.row_sums.proofs.Columns.{combined_symbols}
use Rattle.check_sums.specs.Inner.Sums.{check_sums, power_row, power_bytes, power_rows}

-- the place of the next power
pub next_place : (j e n : ℕ) → (j * (1 + e) % n + j) % n ≡ j * (1 + (e + 1)) % n
next_place j e n =
    let more : j * (1 + e) + j ≡ j * (1 + (e + 1)) = sym (mul-add j (1 + e) 1 ∙ rw (mul-one j)) ∙ ap (λ (x : ℕ). j * x) (omega arith) in
    mod-add-mod (j * (1 + e)) n j ∙ ap (λ (x : ℕ). x % n) more

-- byte v of the w bytes of a symbol is byte v of the last w of two
pub byte_at : (w v x : ℕ) → w ≤ 2 → v < w → x < 256 ^ w → get_or (to_be_bytes w16 x) (v + 2 - w) 0 ≡ get_or (symbol_bytes w x) v 0
unfolding symbol_bytes
byte_at zero v x few inside low = absurd (omega arith)
byte_at (suc zero) zero x few inside low = mod-eq_of_lt low
byte_at (suc zero) (suc v) x few inside low = absurd (omega arith)
byte_at (suc (suc zero)) zero x few inside low =
    let high : x / 256 < 256 = omega (arith, low) in
    mod-eq_of_lt high
byte_at (suc (suc zero)) (suc zero) x few inside low = refl
byte_at (suc (suc zero)) (suc (suc v)) x few inside low = absurd (omega arith)
byte_at (suc (suc (suc w))) v x few inside low = absurd (omega arith)

module _ (h : Header) where
  -- node j's factor in check sum 1 + e
  abbrev factor_at : ℕ → ℕ → ℕ
  factor_at j e = power (modulus_of h) h.root (j * (1 + e) % h.n)

  abbrev checks : ℕ
  checks = h.n - h.k

  -- the rows of powers, as symbols
  abbrev factor_rows : List ℕ
  factor_rows = rows_from (power_row h checks) 0 h.n

  rows_buffer : factor_rows ≡ buffer row_after_row h.n checks factor_at
  unfolding power_row
  rows_buffer =
      sym (buffer_by_row h.n checks factor_at
      ∙ ap (λ (g : ℕ → List ℕ). rows_from g 0 h.n) (fun_ext λ j. from_move (λ e. power (modulus_of h) h.root (j * e % h.n)) 1 0 checks))

  -- and in bytes
  pub length_power_rows : length (power_rows h) ≡ width h * h.n * checks
  unfolding power_rows
  length_power_rows = length_tile_bytes (width h) h.n checks factor_rows

  power_symbols : tile_symbols (width h) h.n checks (power_rows h) ≡ factor_rows
  unfolding power_rows
  power_symbols = tile_read (width h) h.n checks (width_some h) factor_rows (ap length rows_buffer ∙ length_buffer row_after_row h.n checks factor_at)

  pub length_power_bytes : (sums w v j : ℕ) → length (power_bytes h sums w v j) ≡ sums
  unfolding power_bytes
  length_power_bytes sums w v j = length_from (λ e. get_or (symbol_bytes w (power (modulus_of h) h.root (j * e % h.n))) v 0) 1 sums

  -- byte after byte of each node: row i of bytes is byte i % w of node i / w
  abbrev pub byte_row : ℕ → ℕ → List ℕ
  byte_row w i = power_bytes h checks w (i % w) (i / w)

  byte_row_at : (w i t : ℕ) → t < checks → get_or (byte_row w i) t 0 ≡ get_or (symbol_bytes w (factor_at (i / w) t)) (i % w) 0
  unfolding power_bytes
  byte_row_at w i t inside = get_or_from (λ e. get_or (symbol_bytes w (power (modulus_of h) h.root (i / w * e % h.n))) (i % w) 0) 1 checks t 0 inside

  pub power_tile : (w : ℕ) → w ≡ width h → rows_from (byte_row w) 0 (w * h.n) ≡ power_rows h
  unfolding power_rows
  power_tile w wide =
      rw (← wide)
      (held_equal by_row (w * h.n) checks _ _ (length_rows (byte_row w) checks (λ i. length_power_bytes checks w (i % w) (i / w)) 0 (w * h.n)) (length_tile_bytes w h.n checks factor_rows)
      (λ r t row inside.
      let some : 0 < w = rw wide (width_some h) in
      let node : r / w < h.n = (div-lt_iff_lt-mul some).1 (rw (mul_comm w h.n) at row) in
      let byte : r % w < w = mod-lt r some in
      held_by_row (w * h.n) checks _ r t
      ∙ get_d_rows (byte_row w) checks (λ i. length_power_bytes checks w (i % w) (i / w)) 0 (w * h.n) r t row inside
      ∙ ap (λ (i : ℕ). get_or (byte_row w i) t 0) (zero-add r)
      ∙ byte_row_at w r t inside
      ∙ ap (λ (x : ℕ). get_or (symbol_bytes w x) (r % w) 0) (sym (ap (λ (u : List ℕ). held row_after_row h.n checks u (r / w) t) rows_buffer ∙ held_buffer by_row h.n checks factor_at (r / w) t node inside))
      ∙ sym (held_tile_bytes w h.n checks factor_rows (r / w) (r % w) t node byte inside)
      ∙ ap (λ (i : ℕ). held row_after_row (w * h.n) checks (tile_bytes w h.n checks factor_rows) i t) (div-add-mod' r w)))

  module _ (s : Sound h) where
    -- every power is a symbol
    factor_below : (j e : ℕ) → factor_at j e < size h
    factor_below j e = power_below (modulus_of h) s.field (j * (1 + e) % h.n) s.root_below

    rows_below : all_below (size h) factor_rows ≡ true
    rows_below = rw rows_buffer (buffer_below by_row h.n checks (size h) factor_at (λ j e a b. factor_below j e))

    -- the powers of the nodes from j on times their symbols
    dot_check : (e j m : ℕ) (ws : List ℕ) → length ws ≡ m → all_below (size h) ws ≡ true → dot (modulus_of h) (from (λ i. factor_at i e) j m) ws ≡ check_from h (1 + e) j ws
    unfolding dot from check_from
    dot_check e j zero [] long below = refl
    dot_check e j zero (w ∷ ws) long below = absurd (omega arith)
    dot_check e j (suc m) [] long below = absurd (omega arith)
    dot_check e j (suc m) (w ∷ ws) long below =
        let parts = below_cons (size h) w ws below in
        ap₂ (add (modulus_of h)) ((arithmetic (modulus_of h) s.field).mul_comm (factor_at j e) w (factor_below j e) parts.0) (dot_check e (j + 1) m ws (omega arith) parts.1)

    -- the rows times the lane's symbols are its check sums
    combined_rows : (ws : List ℕ) → length ws ≡ h.n → all_below (size h) ws ≡ true → combined row_after_row (modulus_of h) h.n checks ws factor_rows ≡ check_sums h ws
    unfolding combined check_sums
    combined_rows ws long below =
        from_ext _ (λ e. check_from h (1 + e) 0 ws) 0 checks
        (λ e low high. rw (rows_buffer, lane_buffer by_row h.n checks factor_at e (omega arith)) (dot_check e 0 h.n ws long below))
        ∙ from_move (λ e. check_from h e 0 ws) 1 0 checks

    pub combined_sums : (ws : List ℕ) → length ws ≡ h.n → all_below (size h) ws ≡ true → combined_bytes (modulus_of h) h.n checks ws (power_rows h) ≡ bytes_of (width h) (check_sums h ws)
    combined_sums ws long below =
        combined_symbols h (width h) h.n checks ws (power_rows h) refl
        ∙ ap (bytes_of (width h)) (ap (combined row_after_row (modulus_of h) h.n checks ws) power_symbols ∙ combined_rows ws long below)

    -- they can be combined
    pub lane_ready : (ws : List ℕ) → length ws ≡ h.n → all_below (size h) ws ≡ true → (out : ℕ) → out ≡ width h * checks → WeightedRows h.field h.n checks ws (power_rows h) out
    unfolding width
    lane_ready ws long below out out_long =
        record {
          usable_field = s.usable_field;
          tile = record {
            few_lanes = omega (arith, s.byte);
            bytes = length_power_rows;
            weighted = record { few = s.byte; weights = omega arith; weights_below = below; long = length_tile_symbols (width h) h.n checks (power_rows h); symbols = rw power_symbols rows_below; out_long = refl };
            out_is_bytes = out_long;
          };
        }

-- a number is below 1 where it is 0
below_one : (x : ℕ) → ltb x 1 ≡ eqb x 0
below_one zero = refl
below_one (suc x) = le-ltb (suc x) 1 (omega arith) ∙ sym (ne_eqb (suc x) 0 (λ e. omega arith))

-- all are below 1 where all are 0
pub all_below_one : (xs : List ℕ) → list_all (λ x. eqb x 0) xs ≡ all_below 1 xs
unfolding all_below
all_below_one [] = refl
all_below_one (x ∷ xs) = ap₂ ◌&&◌ (sym (below_one x)) (all_below_one xs)

and_swap : (a b c : Bool) → (a && (b && c)) ≡ (b && (a && c))
and_swap true true c = refl
and_swap true false c = refl
and_swap false true c = refl
and_swap false false c = refl

-- one number more at the end
zero_last : (xs : List ℕ) (x : ℕ) → all_below 1 (xs ++ (x ∷ [])) ≡ (eqb x 0 && all_below 1 xs)
unfolding all_below
zero_last [] x = rw (below_one x)
zero_last (y ∷ ys) x = ap (λ (b : Bool). ltb y 1 && b) (zero_last ys x) ∙ and_swap (ltb y 1) (eqb x 0) (all_below 1 ys)

module _ (h : Header) (ws : List ℕ) where
  all_zero_lem : (e : ℕ) → checks_from e h ws ≡ all_below 1 (from (λ i. check_from h i 0 ws) 1 e)
  unfolding checks_from from all_below
  all_zero_lem zero = refl
  all_zero_lem (suc e) =
      let f : ℕ → ℕ = λ i. check_from h i 0 ws in
      let next : 1 + e ≡ suc e = omega arith in
      let last : from f 1 (suc e) ≡ from f 1 e ++ (f (suc e) ∷ []) = rw (add-one, next) at (from_append f 1 e 1) in
      sym (ap (all_below 1) last ∙ zero_last (from f 1 e) (f (suc e)) ∙ ap (λ (b : Bool). eqb (f (suc e)) 0 && b) (sym (all_zero_lem e)))

  -- a lane is a word exactly if its check sums are zero
  pub word_sums : all_below 1 (check_sums h ws) ≡ is_word h ws
  unfolding check_sums is_word
  word_sums = sym (all_zero_lem (h.n - h.k))

  pub length_sums : length (check_sums h ws) ≡ h.n - h.k
  unfolding check_sums
  length_sums = length_from (λ e. check_from h e 0 ws) 1 (h.n - h.k)

  pub sums_read : (w : ℕ) → w ≡ width h → symbols_of w (bytes_of (width h) (check_sums h ws)) ≡ check_sums h ws
  sums_read w wide = rw wide (symbols_bytes (width h) (check_sums h ws) (width_some h))
