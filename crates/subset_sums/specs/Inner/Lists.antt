-- The slices of a table that an output adds for a binary digit of its weights.
use Rattle.std.specs.Prelude.{◌≡◌, true, List, [], ◌∷◌, ◌++◌, ℕ, zero, suc, ◌+◌, ◌-◌, ◌*◌, ◌/◌, ◌%◌, ◌^◌, ◌≤◌, ◌<◌, eqb, length, get_or, take, drop}
use Rattle.std.specs.Int.Bits.{bit_xor}
use Rattle.lists.specs.Choice.{pick}
use Rattle.lists.specs.Numbers.{all_below}
use Rattle.lists.specs.Padded.{zeros}
use Rattle.kernel.specs.Inner.Lanes.{lanewise}
use Rattle.row_sums.specs.Inner.Digits.{xor_sum, multiplied}

-- the subset of group g's four rows whose weight has the digit
unfoldable pub subset_at : List ℕ → ℕ → ℕ → ℕ
subset_at ws digit g = get_or ws (4 * g) 0 / 2 ^ digit % 2 + get_or ws (4 * g + 1) 0 / 2 ^ digit % 2 * 2 + get_or ws (4 * g + 2) 0 / 2 ^ digit % 2 * 4 + get_or ws (4 * g + 3) 0 / 2 ^ digit % 2 * 8

-- where the slices of the subsets v of the f groups from g on start, empty subsets left out
unfoldable pub slices_from : ℕ → ℕ → (ℕ → ℕ) → List ℕ
slices_from zero g v = []
slices_from (suc f) g v = pick (eqb (v g) 0) [] ((g * 1024 + v g * 64) ∷ []) ++ slices_from f (g + 1) v

-- acc with listed slices of 64 lanes added
unfoldable pub slices_added : List ℕ → List ℕ → List ℕ → List ℕ
slices_added tab os acc = lanewise (λ t y. bit_xor y (xor_sum (λ o. get_or tab (o + t) 0) os)) acc

-- Horner's rule over the first b digits: multiplied by x, and the slices listed for the digit added
unfoldable pub turns_of : ℕ → ℕ → List ℕ → List ℕ → List ℕ → List ℕ
turns_of zero groups tab list counts = zeros 64
turns_of (suc b) groups tab list counts = slices_added tab (take (get_or counts b 0) (drop (b * groups) list)) (multiplied (turns_of b groups tab list counts))

-- lists that name slices within the table
pub record Slices (groups : ℕ) (tab list counts : List ℕ) : Type 0 where
  pub long : length list ≡ 8 * groups
  pub counted : length counts ≡ 8
  pub few : (b : ℕ) → b < 8 → get_or counts b 0 ≤ groups
  pub inside : (b i : ℕ) → b < 8 → i < get_or counts b 0 → get_or list (b * groups + i) 0 + 64 ≤ length tab

-- digit 7 − b of the weights: the slices are listed at b · groups, and counts holds how many they are
pub record Listing (groups : ℕ) (ws list counts : List ℕ) : Type 0 where
  pub long : length list ≡ 8 * groups
  pub counted : length counts ≡ 8
  pub few : (b : ℕ) → b < 8 → get_or counts b 0 ≤ groups
  pub listed : (b : ℕ) → b < 8 → take (get_or counts b 0) (drop (b * groups) list) ≡ slices_from groups 0 (subset_at ws (7 - b))

-- rows of 64 bytes in groups of four, the last group filled up by any rows, and a weight for each row
pub record Grouped (rows groups : ℕ) (ws buffer : List ℕ) : Type 0 where
  pub few : rows ≤ 255
  pub room : rows ≤ 4 * groups
  pub long : length buffer ≡ groups * 256
  pub symbols : all_below 256 buffer ≡ true
  pub weights : length ws ≡ rows
  pub weights_below : all_below 256 ws ≡ true
