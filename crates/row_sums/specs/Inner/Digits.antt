-- The rows whose weight has a binary digit, and their sum over the field of 256 elements.
use Rattle.std.specs.Prelude.{◌≡◌, List, [], ◌∷◌, ℕ, ◌+◌, ◌*◌, ◌/◌, ◌%◌, ◌^◌, ◌≤◌, ◌<◌, eqb, length, get_or}
use Rattle.std.specs.Int.Bits.{bit_xor}
use Rattle.lists.specs.Counting.{passing_from}
use Rattle.layout.specs.Layout.{row_after_row, held}
use Rattle.field.specs.Bytes.{times_x}
use Rattle.kernel.specs.Inner.Lanes.{lanewise}

-- of the first rows, those whose weight has the digit
unfoldable pub rows_with : ℕ → ℕ → List ℕ → List ℕ
rows_with digit rows ws = passing_from rows 0 (λ i. eqb (get_or ws i 0 / 2 ^ digit % 2) 1)

-- the sum of the values at listed places
unfoldable pub xor_sum : (ℕ → ℕ) → List ℕ → ℕ
xor_sum f [] = 0
xor_sum f (j ∷ js) = bit_xor (f j) (xor_sum f js)

-- the symbol of row j in lane t, of a buffer of rows of l symbols
unfoldable pub row_at : ℕ → List ℕ → ℕ → ℕ → ℕ
row_at l s j t = held row_after_row (length s / l) l s j t

-- acc with the listed rows of a buffer added
unfoldable pub rows_added : ℕ → List ℕ → List ℕ → List ℕ → List ℕ
rows_added l s js acc = lanewise (λ t y. bit_xor y (xor_sum (λ j. row_at l s j t) js)) acc

-- x times each lane
unfoldable pub multiplied : List ℕ → List ℕ
multiplied acc = lanewise (λ t y. times_x y) acc

-- listed rows of l symbols lie within the buffer, and out is as long as a row
pub record ListedRows (l : ℕ) (js s : List ℕ) (out : ℕ) : Type 0 where
  pub within : (i : ℕ) → i < length js → get_or js i 0 * l + l ≤ length s
  pub out_long : out ≡ l

-- acc was multiplied and the first listed rows were added: with the others, an even number, it makes the multiplied acc with all
pub record Started (l : ℕ) (js s acc acc' others : List ℕ) : Type 0 where
  pub listed : ListedRows l others s (length acc')
  pub even : length others % 2 ≡ 0
  pub rest : rows_added l s others acc' ≡ rows_added l s js (multiplied acc)
