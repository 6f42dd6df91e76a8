-- How many messages light how many nodes: the sentences, proved.
use Rattle.std.specs.Prelude.{Ok}
use mathlib.Core.Path.{◌≡◌, ap, ◌∙◌}
use mathlib.Core.List.{List}
use Prim.Native.Nat.{ℕ, ◌+◌, ◌≤◌}
use native.Mathlib.Nat.{zero-add}
use native.Mathlib.Omega.{arith}
use lib.ListN.{length, get_or}
use Rattle.lists.proofs.Rows.{length_from, get_or_from}
use Rattle.generator.specs.Records.{header_of}
use Rattle.generator.proofs.Accepts.{faultless_sound}
use Rattle.generator.proofs.Answered.{done_is}
use Rattle.refusals.specs.Faults.{fault_of}
use Rattle.refusals.proofs.OnRecord.{none_met}
use Rattle.weight_distribution.proofs.Choosing.{choosing}
use Rattle.weight_counts.specs.Weights.{weight_count_of, weight_counts, weights_fault, Distribution, WeightsSay}
use Rattle.weight_counts.proofs.Sample.{sample_counts}
use Rattle.weight_counts.proofs.Weights.{distribution}
use Rattle.demands.specs.Weights.{Weights}

call : (rec counts counts' : List ℕ) → WeightsSay rec counts counts' (Ok tt) → (length counts' ≡ (header_of rec).n + 1) × ((w : ℕ) → w ≤ (header_of rec).n → get_or counts' w 0 ≡ weight_count_of (header_of rec) w) × Distribution (header_of rec)
unfolding weight_counts
call rec counts counts' says =
    let h = header_of rec in
    let promise = says.counted.promise in
    let none = done_is (fault_of rec (λ h. weights_fault h (length counts))) _ promise.answered in
    let is : counts' ≡ weight_counts h = rw none at promise.written in (
      ap length is ∙ length_from (weight_count_of h) 0 (h.n + 1),
      λ w low. ap (λ (x : List ℕ). get_or x w 0) is ∙ get_or_from (weight_count_of h) 0 (h.n + 1) w 0 (omega arith) ∙ ap (weight_count_of h) (zero-add w),
      distribution h (none_met rec (λ h. weights_fault h (length counts)) none).0,
    )

pub weights : Weights
weights = record { accepted = λ rec none. distribution (header_of rec) (faultless_sound rec none); choosing = choosing; call = call; sample = sample_counts }
