-- The sums of weights times the symbols of a row, from each of its first places on.
use Rattle.std.specs.Prelude.{◌≡◌, true, List, ℕ, ◌+◌, ◌≤◌, length, drop}
use Rattle.lists.specs.Rows.{from}
use Rattle.lists.specs.Numbers.{all_below}
use Rattle.field.specs.Inner.Sums.{dot}

-- the sums from the first l places
unfoldable pub window_sums : ℕ → List ℕ → List ℕ → ℕ → List ℕ
window_sums p ws row l = from (λ t. dot p ws (drop t row)) 0 l

-- weights and a row of symbols below q, with l places from which it has a symbol for each weight
pub record Windows (q : ℕ) (ws row : List ℕ) (l : ℕ) : Type 0 where
  pub few : length ws ≤ 255
  pub places : l ≤ 255
  pub room : length ws + l ≤ length row
  pub short : length row ≤ 510
  pub weights : all_below q ws ≡ true
  pub symbols : all_below q row ≡ true
