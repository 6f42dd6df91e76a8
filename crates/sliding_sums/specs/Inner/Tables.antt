-- The table of a row of bytes: in each place the sums of all subsets of the four bytes from there on. Places of the row that stand side by side are rows that are one place apart, so that one table serves them all.
use Rattle.std.specs.Prelude.{◌≡◌, List, ℕ, ◌+◌, ◌*◌, ◌/◌, ◌%◌, get_or, drop}
use Rattle.lists.specs.Rows.{from}
use Rattle.subset_sums.specs.Inner.Subsets.{subset}
use Rattle.subset_sums.specs.Inner.Lists.{turns_of, Listing}
use Rattle.kernel.specs.Inner.Lanes.{lanewise}

-- the sum of subset v of the four bytes from place t on
unfoldable pub sliding_subset : List ℕ → ℕ → ℕ → ℕ
sliding_subset row v t = subset (λ i. get_or row (t + i) 0) v

-- byte p of the table, in which each subset has 512 places
unfoldable pub sliding_byte : List ℕ → ℕ → ℕ
sliding_byte row p = sliding_subset row (p / 512) (p % 512)

unfoldable pub sliding_table : List ℕ → List ℕ
sliding_table row = from (sliding_byte row) 0 8192

-- where the slice begins that stands at o in a table of rows: group o / 1024 begins at four times its number, and subset o / 64 % 16 has its 512 places
unfoldable pub place_of : ℕ → ℕ
place_of o = o / 1024 * 4 + o % 1024 * 8

-- lists of slices of this table, made for weights
pub record Placed (groups : ℕ) (ws list counts : List ℕ) : Type 0 where
  pub rows : List ℕ
  pub listing : Listing groups ws rows counts
  pub moved : list ≡ lanewise (λ t o. place_of o) rows

-- the lists of some weights
pub record Slicing (groups : ℕ) (list counts : List ℕ) : Type 0 where
  pub weights : List ℕ
  pub placed : Placed groups weights list counts

-- the sum from place p on: 64 places have the slices of a part of the table
unfoldable pub sum_at : ℕ → List ℕ → List ℕ → List ℕ → ℕ → ℕ
sum_at groups tab list counts p = get_or (turns_of 8 groups (drop (p / 64 * 64) tab) list counts) (p % 64) 0
