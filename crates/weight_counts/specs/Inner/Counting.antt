-- What the functions behind the call rely on and give: a difference table and a row of Pascal's triangle, each made in place.
use Rattle.std.specs.Prelude.{ℕ, ◌+◌, ◌-◌, ◌%◌, ◌^◌, ◌≤◌, List, length, nat_lt, slice_index}
use Rattle.lists.specs.Choice.{pick}
use Rattle.lists.specs.Rows.{from}
use Rattle.generator.specs.declared.Header.{Header}
use Rattle.generator.specs.Records.{size, Sound}
use Rattle.weight_distribution.specs.Counts.{binomial}
use Rattle.weight_distribution.specs.Inner.Prescribed.{prescribed}

-- an accepted record with at most 65,536 messages
pub record Small (h : Header) : Type 0 where
  pub sound : Sound h
  pub few : size h ^ h.k ≤ 65536

-- the list with each place from `first` on replaced by `op` of it and of the place before it
unfoldable pub with_previous : (ℕ → ℕ → ℕ) → ℕ → List ℕ → List ℕ
with_previous op first s = from (λ i. pick (nat_lt i first) (slice_index s i) (op (slice_index s i) (slice_index s (i - 1)))) 0 (length s)

-- the difference table of an accepted record after w turns: place y has been taken part in w differences, or in y where y is less
unfoldable pub differences_of : Header → ℕ → List ℕ
differences_of h w = from (λ y. prescribed h.n h.k (size h) (pick (nat_lt y w) y w) y) 0 (h.n + 1)

-- C(n, b) for b from 0 to 255, in 32 bits
unfoldable pub binomials : ℕ → List ℕ
binomials n = from (λ b. binomial n b % 2 ^ 32) 0 256
