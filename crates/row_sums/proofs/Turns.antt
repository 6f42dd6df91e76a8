-- The sums with what the digits from one on make of the weights: before the first turn, from turn to turn, and after the last.
use mathlib.Core.Path.{◌≡◌, refl, sym, ap, ◌∙◌}
use mathlib.Core.List.{List}
use Prim.Native.Nat.{ℕ, zero, suc, ◌+◌, ◌/◌, ◌^◌, ◌≤◌, ◌<◌}
use native.Mathlib.Nat.{div-one, div-le_self, div-div-eq-div-mul, div-eq_of_lt, pow-suc}
use native.Mathlib.Numerals.{add-one}
use native.Mathlib.Omega.{arith}
use lib.Bits.{bit_xor}
use lib.ListN.{length, get_or, drop}
use Rattle.lists.specs.Rows.{from}
use Rattle.lists.specs.Padded.{zeros}
use Rattle.lists.proofs.Fill.{from_zeros}
use Rattle.lists.proofs.Front.{drop_next}
use Rattle.lists.proofs.Numbers.{below_at}
use Rattle.lists.proofs.Rows.{length_from, from_ext}
use Rattle.layout.specs.Layout.{row_after_row, held, lane_of}
use Rattle.layout.proofs.Lawful.{by_row}
use Rattle.layout.proofs.Buffers.{held_below}
use Rattle.field.specs.Bytes.{times_x}
use Rattle.field.specs.Inner.Sums.{dot}
use Rattle.kernel.proofs.Lanes.{lanewise_twice, lanewise_from, length_lanewise}
use Rattle.row_sums.specs.Inner.Combined.{combined, Weighted}
use Rattle.row_sums.specs.Inner.Digits.{rows_with, row_at, xor_sum, rows_added, multiplied}
use Rattle.row_sums.proofs.Horner.{dot_none, dot_halved}

-- a sum over the first rows by their weights, as a list by index
dot_index : (x : ℕ → ℕ) (ws : List ℕ) (f i : ℕ) → i + f ≤ length ws → dot 0 (from x i f) (from (λ i. get_or ws i 0) i f) ≡ dot 0 (from x i f) (drop i ws)
unfolding dot from
dot_index x ws zero i h = refl
dot_index x ws (suc f) i h =
    let more : i < length ws = omega arith in
    rw (drop_next ws i 0 more) (rw (dot_index x ws f (i + 1) (omega arith)))

module _ (rows l : ℕ) (ws s : List ℕ) where
  -- the weights without their first `digit` digits
  abbrev pub high_of : ℕ → ℕ → ℕ
  high_of digit i = get_or ws i 0 / 2 ^ digit

  -- the sums with those weights
  unfoldable pub sums_of : ℕ → List ℕ
  sums_of digit = combined row_after_row 0 rows l (from (high_of digit) 0 rows) s

  pub length_sums : (digit : ℕ) → length (sums_of digit) ≡ l
  unfolding sums_of combined
  length_sums digit = length_from _ 0 l

  -- row i's symbol of lane t
  abbrev held_at : ℕ → ℕ → ℕ
  held_at t i = held row_after_row rows l s i t

  module _ {out : ℕ} (a : Weighted 256 rows l ws s out) where
    symbol_byte : (t : ℕ) → t < l → (i : ℕ) → i < rows → held_at t i < 256
    symbol_byte t inside i row = held_below by_row rows l 256 s a.long a.symbols i t row inside

    weight_byte : (i : ℕ) → i < rows → get_or ws i 0 < 256
    weight_byte i row = below_at 256 ws a.weights_below i (omega (arith, a.weights))

    high_byte : (digit i : ℕ) → i < rows → high_of digit i < 256
    high_byte digit i row = omega (arith, div-le_self (get_or ws i 0) (2 ^ digit), weight_byte i row)

    pub sums_start : zeros l ≡ sums_of 8
    unfolding sums_of combined lane_of
    sums_start =
        sym (from_zeros _ 0 l
        (λ t low high. dot_none rows (held_at t) (symbol_byte t (omega arith)) (high_of 8) (λ i row. div-eq_of_lt (weight_byte i row)) rows 0 (omega arith)))

    -- one digit less
    multiplied_added : (d e : ℕ) → d + 1 ≡ e → rows_added l s (rows_with d rows ws) (multiplied (sums_of e)) ≡ sums_of d
    unfolding sums_of combined lane_of held row_after_row row_at rows_added multiplied rows_with
    multiplied_added d e next =
        lanewise_twice _ _ (sums_of e)
        ∙ lanewise_from _ _ _ l
        (λ t inside.
        ap (λ (v : List ℕ). bit_xor (times_x (dot 0 (from (held_at t) 0 rows) v)) (xor_sum (held_at t) (rows_with d rows ws))) (from_ext (high_of e) (λ i. high_of d i / 2) 0 rows (λ i low high. halved (get_or ws i 0)))
        ∙ dot_halved rows (held_at t) (symbol_byte t inside) (high_of d) (high_byte d) rows 0 (omega arith))
      where
        halved : (w : ℕ) → w / 2 ^ e ≡ w / 2 ^ d / 2
        halved w = rw (← next, add-one, pow-suc) (sym (div-div-eq-div-mul w (2 ^ d) 2))

    -- as the loop has it: n rows were listed, and acc is multiplied
    pub sums_turn : (d e n : ℕ) (acc : List ℕ) → d + 1 ≡ e → n ≡ rows → acc ≡ sums_of e → rows_added l s (rows_with d n ws) (multiplied acc) ≡ sums_of d
    sums_turn d e n acc next all held = rw (all, held) (multiplied_added d e next)

    pub sums_end : sums_of 0 ≡ combined row_after_row 0 rows l ws s
    unfolding sums_of combined lane_of
    sums_end =
        from_ext _ _ 0 l
        (λ t low high.
        ap (dot 0 (from (held_at t) 0 rows)) (from_ext (high_of 0) (λ i. get_or ws i 0) 0 rows (λ i low high. div-one (get_or ws i 0)))
        ∙ dot_index (held_at t) ws rows 0 (omega (arith, a.weights)))

-- a row times x is as long
pub length_multiplied : (acc : List ℕ) → length (multiplied acc) ≡ length acc
unfolding multiplied
length_multiplied acc = length_lanewise _ acc
