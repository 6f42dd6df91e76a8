-- Demand 1, from what each call promises.
use Rattle.std.specs.Prelude.{Option, Err}
use Rattle.generator.specs.Answers.{Answer, answer_of}
use mathlib.Core.Path.{◌≡◌, refl}
use mathlib.Core.List.{List, ◌++◌}
use Prim.Native.Nat.{ℕ}
use borrow.Author.Tests.{ne_eqb}
use lib.ListN.{length}
use Rattle.layout.specs.Layout.{Arrangement, share_layout}
use Rattle.generator.specs.declared.Header.{Header}
use Rattle.generator.specs.Records.{header_of}
use Rattle.generator.proofs.Accepts.{faultless_sound}
use Rattle.generator.proofs.Answered.{refused_is, answer_refused}
use Rattle.belongs.specs.Promise.{belongs_fault, BelongsSays}
use Rattle.recover.specs.Promise.{recover_fault, rebuild_fault, RecoverSays, RebuildSays}
use Rattle.update.specs.Promise.{update_fault, UpdateSays}
use Rattle.update_lanes.specs.Promise.{run_fault, RunSays}
use Rattle.encode.specs.Promise.{encode_fault, EncodeSays}
use Rattle.rearrange.specs.Promise.{RearrangeSays, rearrange_fault}
use Rattle.differences.specs.Promise.{differences_fault, add_fault, DifferencesSays, AddSays}
use Rattle.correct.specs.Promise.{correct_fault, CorrectSays}
use Rattle.correct_listed.specs.Promise.{correct_listed_fault, CorrectListedSays}
use Rattle.find_update.specs.declared.Finding.{Finding}
use Rattle.find_update.specs.Promise.{find_fault, FindSays}
use Rattle.mends.specs.Promise.{mends_fault, MendsSay}
use Rattle.weight_counts.specs.Weights.{weights_fault, WeightsSay}
use Rattle.demands.specs.Judging.{Table, Judged}
use Rattle.demands.specs.Numbers.{record_numbers, encode_numbers, update_numbers, run_numbers, recover_numbers, rebuild_numbers, belongs_numbers, correct_numbers, correct_listed_numbers, rearrange_numbers, differences_numbers, add_numbers, find_numbers, mends_numbers, weights_numbers}
use Rattle.demands.specs.Refusals.{Refusals}
use Rattle.demands.proofs.Judging.{Tells, call_judged, by_answer}
use Rattle.demands.proofs.Numbers.{own_after, encode_tells, update_tells, recover_tells, rebuild_tells, belongs_tells, correct_tells, correct_listed_tells, rearrange_tells, differences_tells, add_tells, find_tells, mends_tells, weights_tells}
use Rattle.demands.proofs.RunNumbers.{run_tells}

-- a call that answers by its number
pub by_outcome : {A : Type 0} {table : Table} {kept : Type 0} {number : ℕ} {r : Answer A} (v : A) → Tells table number → r ≡ answer_of number v → ((number ≡ 0 → ⊥) → kept) → Judged table (λ f. r ≡ Err f) kept
by_outcome {number = number} v tells answer kept = call_judged number tells (by_answer Err answer (refused_is number v) (answer_refused number v)) kept

module _ (rec : List ℕ) where
  abbrev h : Header
  h = header_of rec

  module _ (l : ℕ) where
    encode : (message out out' : List ℕ) (r : Answer (Unit {0})) → EncodeSays rec l message out out' r → Judged (record_numbers rec ++ encode_numbers h l message (length out)) (λ f. r ≡ Err f) (out' ≡ out)
    encode message out out' r says =
        by_outcome _ (own_after rec _ (λ h. encode_fault h l (length out) message) refl (λ none. encode_tells h l message (length out))) says.promise.answered
        (λ some. rw (ne_eqb _ 0 some) at says.promise.written)

    update : (r t old new : ℕ) (shares shares' : List ℕ) (a : Answer ℕ) → UpdateSays rec l r t old new shares shares' a → Judged (record_numbers rec ++ update_numbers h l r t old new shares) (λ f. a ≡ Err f) (shares' ≡ shares)
    update r t old new shares shares' a says =
        by_outcome _ (own_after rec _ (λ h. update_fault share_layout h l r t old new shares) refl (λ none. update_tells h (faultless_sound rec none) l r t old new shares)) says.promise.answered
        (λ some. rw (ne_eqb _ 0 some) at says.promise.written)

    update_lanes : (r first : ℕ) (old new shares shares' : List ℕ) (a : Answer ℕ) → RunSays rec l r first old new shares shares' a → Judged (record_numbers rec ++ run_numbers h l r first old new shares) (λ f. a ≡ Err f) (shares' ≡ shares)
    update_lanes r first old new shares shares' a says =
        by_outcome _ (own_after rec _ (λ h. run_fault h l r first old new shares) refl (λ none. run_tells h (faultless_sound rec none) l r first old new shares)) says.promise.answered
        (λ some. rw (ne_eqb _ 0 some) at says.promise.written)

    module _ (nodes shares : List ℕ) where
      recover : (out out' : List ℕ) (r : Answer (Unit {0})) → RecoverSays rec l nodes shares out out' r → Judged (record_numbers rec ++ recover_numbers h l nodes shares (length out)) (λ f. r ≡ Err f) (out' ≡ out)
      recover out out' r says =
          by_outcome _ (own_after rec _ (λ h. recover_fault h l nodes shares (length out)) refl (λ none. recover_tells h l nodes shares (length out))) says.promise.answered
          (λ some. rw (ne_eqb _ 0 some) at says.promise.written)

      rebuild : (target : ℕ) (out out' : List ℕ) (r : Answer (Unit {0})) → RebuildSays rec l nodes shares target out out' r → Judged (record_numbers rec ++ rebuild_numbers h l nodes shares target (length out)) (λ f. r ≡ Err f) (out' ≡ out)
      rebuild target out out' r says =
          by_outcome _ (own_after rec _ (λ h. rebuild_fault h l nodes shares target (length out)) refl (λ none. rebuild_tells h l nodes shares target (length out))) says.promise.answered
          (λ some. rw (ne_eqb _ 0 some) at says.promise.written)

      correct_listed : (out out' wrong wrong' : List ℕ) (r : Answer ℕ) → CorrectListedSays rec l nodes shares out out' wrong wrong' r → Judged (record_numbers rec ++ correct_listed_numbers h l nodes shares (length out) (length wrong)) (λ f. r ≡ Err f) ((out' ≡ out) × (wrong' ≡ wrong))
      correct_listed out out' wrong wrong' r says =
          by_outcome _ (own_after rec _ (λ h. correct_listed_fault share_layout h l nodes shares (length out) (length wrong)) refl (λ none. correct_listed_tells h l nodes shares (length out) (length wrong) (faultless_sound rec none))) says.promise.answered
          (λ some. (rw (ne_eqb _ 0 some) at says.promise.written, rw (ne_eqb _ 0 some) at says.promise.counted))

    module _ (shares : List ℕ) where
      belongs : (r : Answer (Option ℕ)) → BelongsSays rec l shares r → Judged (record_numbers rec ++ belongs_numbers h l shares) (λ f. r ≡ Err f) (Unit {0})
      belongs r says = by_outcome _ (own_after rec _ (λ h. belongs_fault h l shares) refl (λ none. belongs_tells h l shares)) says.promise.answered (λ some. tt)

      correct : (shares' : List ℕ) (r : Answer ℕ) → CorrectSays rec l shares shares' r → Judged (record_numbers rec ++ correct_numbers h l shares) (λ f. r ≡ Err f) (shares' ≡ shares)
      correct shares' r says =
          by_outcome _ (own_after rec _ (λ h. correct_fault share_layout h l shares) refl (λ none. correct_tells h (faultless_sound rec none) l shares)) says.promise.answered
          (λ some. rw (ne_eqb _ 0 some) at says.promise.written)

    rearrange : {y z : Arrangement} (rows : Header → ℕ) (source out out' : List ℕ) (r : Answer (Unit {0})) → RearrangeSays y z rows rec l source out out' r → Judged (record_numbers rec ++ rearrange_numbers h (rows h) l (length source) (length out)) (λ f. r ≡ Err f) (out' ≡ out)
    rearrange rows source out out' r says =
        by_outcome _ (own_after rec _ (λ h. rearrange_fault h (rows h) l (length source) (length out)) refl (λ none. rearrange_tells h l (rows h) (length source) (length out))) says.promise.answered
        (λ some. rw (ne_eqb _ 0 some) at says.promise.written)

    differences : (symbol : ℕ) (old new out out' : List ℕ) (r : Answer (Unit {0})) → DifferencesSays rec l symbol old new out out' r → Judged (record_numbers rec ++ differences_numbers h l symbol old new (length out)) (λ f. r ≡ Err f) (out' ≡ out)
    differences symbol old new out out' r says =
        by_outcome _ (own_after rec _ (λ h. differences_fault h l symbol old new (length out)) refl (λ none. differences_tells h l symbol old new (length out))) says.promise.answered
        (λ some. rw (ne_eqb _ 0 some) at says.promise.written)

    add_share : (difference share share' : List ℕ) (r : Answer (Unit {0})) → AddSays rec l difference share share' r → Judged (record_numbers rec ++ add_numbers h l difference share) (λ f. r ≡ Err f) (share' ≡ share)
    add_share difference share share' r says =
        by_outcome _ (own_after rec _ (λ h. add_fault h l difference share) refl (λ none. add_tells h l difference share)) says.promise.answered
        (λ some. rw (ne_eqb _ 0 some) at says.promise.written)

  find : (before after : List ℕ) (r : Answer Finding) → FindSays rec before after r → Judged (record_numbers rec ++ find_numbers h before after) (λ f. r ≡ Err f) (Unit {0})
  find before after r says = by_outcome _ (own_after rec _ (λ h. find_fault h before after) refl (λ none. find_tells h before after)) says.found.promise.answered (λ some. tt)

  mends : (lane nodes symbols nodes' symbols' : List ℕ) (r : Answer ℕ) → MendsSay rec lane nodes symbols nodes' symbols' r → Judged (record_numbers rec ++ mends_numbers h lane (length nodes) (length symbols)) (λ f. r ≡ Err f) ((nodes' ≡ nodes) × (symbols' ≡ symbols))
  mends lane nodes symbols nodes' symbols' r says =
      let promise = says.listed.promise in
      by_outcome _ (own_after rec _ (λ h. mends_fault h lane (length nodes) (length symbols)) refl (λ none. mends_tells h lane (length nodes) (length symbols))) promise.answered
      (λ some. (rw (ne_eqb _ 0 some) at promise.nodes_written, rw (ne_eqb _ 0 some) at promise.symbols_written))

  weights : (counts counts' : List ℕ) (r : Answer (Unit {0})) → WeightsSay rec counts counts' r → Judged (record_numbers rec ++ weights_numbers h (length counts)) (λ f. r ≡ Err f) (counts' ≡ counts)
  weights counts counts' r says =
      by_outcome _ (own_after rec _ (λ h. weights_fault h (length counts)) refl (λ none. weights_tells h (length counts))) says.counted.promise.answered
      (λ some. rw (ne_eqb _ 0 some) at says.counted.promise.written)

pub refusals : Refusals
refusals =
    record {
      encode = encode;
      update = update;
      update_lanes = update_lanes;
      recover = recover;
      rebuild = rebuild;
      belongs = belongs;
      correct = correct;
      correct_listed = correct_listed;
      into_lanes = λ rec l. rearrange rec l (λ h. h.n);
      into_nodes = λ rec l. rearrange rec l (λ h. h.n);
      listed_to_lanes = λ rec l. rearrange rec l (λ h. h.k);
      listed_to_nodes = λ rec l. rearrange rec l (λ h. h.k);
      differences = differences;
      add_share = add_share;
      find = find;
      mends = mends;
      weights = weights;
    }
