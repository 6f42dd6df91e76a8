-- One lane: the sum of the symbols whose weight has a digit, symbol after symbol, and a lane to which it is added.
use mathlib.Core.Path.{◌≡◌, refl, sym, ap, ap₂, ◌∙◌}
use mathlib.Core.List.{List, [], ◌∷◌}
use Prim.Native.Nat.{ℕ, ◌+◌, ◌-◌, ◌*◌, ◌/◌, ◌%◌, ◌^◌, ◌≤◌, ◌<◌}
use native.Mathlib.Nat.{sub-zero, sub-eq-zero_of_le}
use native.Mathlib.Omega.{arith}
use lib.Bits.{bit_xor, xor_zero_l, xor_zero_r, xor_assoc}
use lib.ListN.{length, get_or, set}
use Rattle.lists.specs.Counting.{passing_from}
use Rattle.lists.specs.Rows.{from}
use Rattle.lists.proofs.Rows.{sub_next}
use Rattle.layout.proofs.Places.{held_by_row}
use Rattle.kernel.specs.Inner.Lanes.{lanewise}
use Rattle.row_sums.specs.Inner.Digits.{rows_with, row_at, xor_sum, rows_added}
use Rattle.row_sums.proofs.Horner.{sum_front}
use Rattle.row_sums.proofs.Listing.{has}

module _ (digit rows : ℕ) (ws : List ℕ) (x : ℕ → ℕ) where
  -- the sum over the rows below i, and with those from i on it is the whole
  abbrev pub SummedBelow : ℕ → ℕ → Type 0
  SummedBelow sum i = bit_xor sum (xor_sum x (passing_from (rows - i) i (has digit ws))) ≡ xor_sum x (rows_with digit rows ws)

  pub summed_none : SummedBelow 0 0
  unfolding rows_with
  summed_none = rw sub-zero (xor_zero_l _)

  pub summed_row : (sum i : ℕ) → i < rows → SummedBelow sum i → SummedBelow (bit_xor sum (x i * (get_or ws i 0 / 2 ^ digit % 2))) (i + 1)
  unfolding passing_from
  summed_row sum i row e =
      xor_assoc sum _ _ ∙ ap (bit_xor sum) (sym (sum_front x i (get_or ws i 0 / 2 ^ digit % 2) _ (omega arith))) ∙ (rw (sub_next rows i row) at e)

  pub summed_all : (sum i : ℕ) → rows ≤ i → SummedBelow sum i → sum ≡ xor_sum x (rows_with digit rows ws)
  unfolding passing_from xor_sum
  summed_all sum i end e = sym (xor_zero_r sum) ∙ (rw (sub-eq-zero_of_le end) at e)

-- sums of equal values
sum_ext : (f g : ℕ → ℕ) → ((j : ℕ) → f j ≡ g j) → (js : List ℕ) → xor_sum f js ≡ xor_sum g js
unfolding xor_sum
sum_ext f g same [] = refl
sum_ext f g same (j ∷ js) = ap₂ bit_xor (same j) (sum_ext f g same js)

-- a symbol is a row of one lane
symbol_row : (s : List ℕ) (j : ℕ) → get_or s j 0 ≡ row_at 1 s j 0
unfolding row_at
symbol_row s j = let place : j ≡ j * 1 + 0 = omega arith in ap (λ (i : ℕ). get_or s i 0) place ∙ sym (held_by_row (length s / 1) 1 s j 0)

-- the sum added to the lane
pub lane_added : (s js acc : List ℕ) → length acc ≡ 1 → set acc 0 (bit_xor (get_or acc 0 0) (xor_sum (λ j. get_or s j 0) js)) ≡ rows_added 1 s js acc
unfolding rows_added lanewise from
lane_added s js [] long = absurd (omega arith)
lane_added s js (y ∷ []) long = ap (λ (v : ℕ). bit_xor y v ∷ []) (sum_ext (λ j. get_or s j 0) (λ j. row_at 1 s j 0) (symbol_row s) js)
lane_added s js (y ∷ z ∷ acc) long = absurd (omega arith)
