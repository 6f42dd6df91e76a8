-- What the call says beside a number g: the number, and nothing is written.
use Rattle.std.specs.Prelude.{Err}
use Rattle.std.proofs.Common.{◌≡◌, ℕ, List, sym}
use Rattle.generator.specs.declared.Header.{Header}
use Rattle.generator.proofs.Answered.{answer_refused}
use Rattle.blocks.proofs.Refused.{refused_value}
use Rattle.weight_counts.specs.Weights.{WeightsPromise}

pub weights_refuses : (h : Header) (g : ℕ) → (g ≡ 0 → ⊥) → (counts : List ℕ) → WeightsPromise counts counts (Err g) h g
weights_refuses h g some counts = record { answered = sym (answer_refused g _ some); written = sym (refused_value g _ counts some) }
