-- The sums that a table's listed slices make, as the code holds them.
use Rattle.std.specs.Prelude.{List, ℕ, ◌/◌, length, drop}
use Rattle.subset_sums.specs.Inner.Lists.{turns_of}
use Rattle.sliding_sums.specs.declared.bytes.Sliding.{Sliding}
use Rattle.sliding_sums.specs.Inner.Tables.{sum_at}

-- 64 places from place `at` on after b digits
abbrev pub part_sums : Sliding → ℕ → ℕ → List ℕ
part_sums s at b = turns_of b (length s.listed.list.now / 8) (drop at s.listed.tab.now) s.listed.list.now s.listed.counts.now

-- the sum from a place on
abbrev pub sum_from : Sliding → ℕ → ℕ
sum_from s = sum_at (length s.listed.list.now / 8) s.listed.tab.now s.listed.list.now s.listed.counts.now
