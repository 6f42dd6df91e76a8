-- How many messages light how many nodes, sentence by sentence.
use Rattle.std.specs.Prelude.{Ok}
use Rattle.std.specs.Prelude.{◌≡◌, List, [], ◌∷◌, ℕ, ◌+◌, ◌≤◌, length, get_or}
use Rattle.generator.specs.Records.{header_of, record_fault}
use Rattle.weight_distribution.specs.Choosing.{Choosing}
use Rattle.weight_counts.specs.Weights.{weight_count_of, weight_counts, Distribution, WeightsSay}

pub record Weights : Type 0 where
  -- the textbook's weight distribution is that of every accepted record
  pub accepted : (rec : List ℕ) → record_fault rec ≡ 0 → Distribution (header_of rec)
  -- C(a, b) in it is the number of ways to choose b out of a
  pub choosing : (a b : ℕ) → Choosing a b
  -- of a call that is done: n + 1 counts, for the weights from 0 to n
  pub call : (rec counts counts' : List ℕ) → WeightsSay rec counts counts' (Ok tt) →
      let h = header_of rec in
      (length counts' ≡ h.n + 1) × ((weight : ℕ) → weight ≤ h.n → get_or counts' weight 0 ≡ weight_count_of h weight) × Distribution h
  -- the counts of 1 7 3 6 3
  pub sample : weight_counts (header_of (1 ∷ 7 ∷ 3 ∷ 6 ∷ 3 ∷ [])) ≡ 1 ∷ 0 ∷ 0 ∷ 0 ∷ 90 ∷ 108 ∷ 144 ∷ []
