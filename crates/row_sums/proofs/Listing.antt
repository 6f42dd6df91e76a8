-- The loop that lists the rows whose weight has a digit, and where the listed rows lie.
use mathlib.Core.Path.{◌≡◌, ◌∙◌}
use mathlib.Core.Bool.{Bool}
use mathlib.Core.List.{List, [], ◌∷◌, ◌++◌, append-nil, append_assoc}
use Prim.Native.Nat.{ℕ, zero, suc, ◌+◌, ◌-◌, ◌/◌, ◌%◌, ◌^◌, ◌≤◌, ◌<◌}
use native.Mathlib.Nat.{add-zero, sub-zero, sub-eq-zero_of_le}
use native.Mathlib.Numerals.{add-one}
use native.Mathlib.Omega.{arith}
use lib.Dec.{eqb}
use lib.ListN.{length, get_or, take, drop, set, length-drop}
use lib.Seq.{take-suc-set, take-set-le, get_or-drop}
use Rattle.lists.specs.Choice.{pick}
use Rattle.lists.specs.Counting.{passing_from}
use Rattle.lists.proofs.All.{All-at}
use Rattle.lists.proofs.Passing.{passing_within}
use Rattle.lists.proofs.Rows.{sub_next, row_inside}
use Rattle.row_sums.specs.Inner.Combined.{Weighted}
use Rattle.row_sums.specs.Inner.Digits.{rows_with, ListedRows}

-- whether the weight of row i has the digit
abbrev pub has : ℕ → List ℕ → ℕ → Bool
has digit ws i = eqb (get_or ws i 0 / 2 ^ digit % 2) 1

module _ (digit rows : ℕ) (ws : List ℕ) where
  -- the first `count` places hold the rows below i, and with those from i on they are all
  abbrev pub ListedBelow : List ℕ → ℕ → ℕ → Type 0
  ListedBelow list count i = take count list ++ passing_from (rows - i) i (has digit ws) ≡ rows_with digit rows ws

  pub listed_none : (list : List ℕ) → ListedBelow list 0 0
  unfolding rows_with
  listed_none list = rw sub-zero

  -- row i is written after those listed, and counted where its digit is 1
  listed_more : (list : List ℕ) (count i d : ℕ) (rest whole : List ℕ) → count < length list → d < 2 → take count list ++ (pick (eqb d 1) (i ∷ []) [] ++ rest) ≡ whole → take (count + d) (set list count i) ++ rest ≡ whole
  listed_more list count i zero rest whole fits h e = rw (add-zero, take-set-le count list count i (omega arith)) e
  listed_more list count i (suc zero) rest whole fits h e = rw (add-one, take-suc-set list count i fits, append_assoc) e
  listed_more list count i (suc (suc d)) rest whole fits h e = absurd (omega arith)

  pub listed_row : (list : List ℕ) (count i : ℕ) → count < length list → i < rows → ListedBelow list count i → ListedBelow (set list count i) (count + get_or ws i 0 / 2 ^ digit % 2) (i + 1)
  unfolding passing_from
  listed_row list count i fits row e =
      listed_more list count i (get_or ws i 0 / 2 ^ digit % 2) _ _ fits (omega arith)
      (rw (sub_next rows i row) at e)

  pub listed_all : (list : List ℕ) (count i : ℕ) → rows ≤ i → ListedBelow list count i → take count list ≡ rows_with digit rows ws
  unfolding passing_from
  listed_all list count i end e =
      rw (append-nil) at (rw (sub-eq-zero_of_le end) at e)

  -- every listed row lies within the buffer
  pub listed_rows : {q l : ℕ} {s : List ℕ} {n : ℕ} → Weighted q rows l ws s n → (out : ℕ) → out ≡ l → ListedRows l (rows_with digit rows ws) s out
  unfolding rows_with
  listed_rows {q} {l} {s} {n} a out e =
      record {
        within = λ i inside.
            let at = All-at (λ j. (0 ≤ j) × (j < 0 + rows)) 0 (rows_with digit rows ws) (passing_within rows 0 (has digit ws)) i inside in
            rw a.long (row_inside rows (get_or (rows_with digit rows ws) i 0) l (omega arith));
        out_long = e;
      }

-- and those from place r on
pub listed_rest : {l : ℕ} {js s : List ℕ} {n : ℕ} (r : ℕ) (out : ℕ) → out ≡ n → ListedRows l js s n → ListedRows l (drop r js) s out
listed_rest {l} {js} {s} {n} r out same a =
    record {
      within = λ i inside. rw (get_or-drop r js i 0) (a.within (r + i) (omega (arith, length-drop r js)));
      out_long = same ∙ a.out_long;
    }
