-- The digits of a byte spread over the bytes of a number, and the lists of slices while they are made.
use Rattle.std.specs.Prelude.{◌≡◌, List, ◌++◌, ℕ, zero, suc, ◌+◌, ◌-◌, ◌*◌, ◌/◌, ◌%◌, ◌≤◌, ◌<◌, length, get_or, take, drop}
use Rattle.lists.specs.Rows.{from}
use Rattle.subset_sums.specs.Inner.Lists.{subset_at, slices_from}

-- the f low binary digits of c, as digits to the base 256
unfoldable pub spread_from : ℕ → ℕ → ℕ
spread_from zero c = 0
spread_from (suc f) c = c % 2 + 256 * spread_from f (c / 2)

unfoldable pub spread_of : ℕ → ℕ
spread_of c = spread_from 8 c

unfoldable pub spreads : List ℕ
spreads = from spread_of 0 256

-- the slices of digit 7 − b are listed for the groups below at b
pub record Streams (groups : ℕ) (at : ℕ → ℕ) (ws list counts : List ℕ) : Type 0 where
  pub long : length list ≡ 8 * groups
  pub counted : length counts ≡ 8
  pub few : (b : ℕ) → b < 8 → get_or counts b 0 ≤ at b
  pub listed : (b : ℕ) → b < 8 → take (get_or counts b 0) (drop (b * groups) list) ++ slices_from (groups - at b) (at b) (subset_at ws (7 - b)) ≡ slices_from groups 0 (subset_at ws (7 - b))
