-- From the answers of the calls for a changed row to what their functions for C promise.
use Rattle.std.specs.Result.{result_unwrap_or}
use Rattle.generator.specs.Answers.{Answer, answer_of, outcome_of, fault_in}
use mathlib.Core.Path.{◌≡◌, ap, ap₂, ◌∙◌}
use mathlib.Core.List.{List}
use Prim.Native.Nat.{ℕ}
use lib.Dec.{eqb}
use lib.ListN.{length}
use Rattle.lists.specs.Choice.{pick}
use Rattle.generator.specs.Records.{header_of}
use Rattle.generator.proofs.Answered.{answer_number}
use Rattle.refusals.specs.Faults.{fault_of}
use Rattle.differences.specs.Promise.{differences_fault, add_fault, DifferencesSays, AddSays}
use Rattle.update_lanes.specs.Runs.{run_count}
use Rattle.update_lanes.specs.Promise.{run_fault, RunSays}
use Rattle.update_lanes.proofs.Answering.{run_symbols_differ}
use Rattle.balanced_c.specs.RowChanges.{DifferencesGives, AddGives, UpdateLanesGives}
use Rattle.balanced_c.proofs.Answers.{by_number, counted_value, counted_again, handed}

pub differences_give : (rec : List ℕ) (l symbol : ℕ) (old new out out' : List ℕ) (a : Answer (Unit {0})) (r : ℕ) → r ≡ fault_in a → DifferencesSays rec l symbol old new out out' a → DifferencesGives rec l symbol old new out out' r
differences_give rec l symbol old new out out' a r e says =
    let number = by_number a r (fault_of rec (λ h. differences_fault h l symbol old new (length out))) e says.promise.answered in
    record { number = number; says = record { promise = record { answered = ap outcome_of number; written = says.promise.written } } }

pub add_gives : (rec : List ℕ) (l : ℕ) (difference share share' : List ℕ) (a : Answer (Unit {0})) (r : ℕ) → r ≡ fault_in a → AddSays rec l difference share share' a → AddGives rec l difference share share' r
add_gives rec l difference share share' a r e says =
    let number = by_number a r (fault_of rec (λ h. add_fault h l difference share)) e says.promise.answered in
    record { number = number; says = record { promise = record { answered = ap outcome_of number; written = says.promise.written } } }

module _ (rec : List ℕ) (l symbol first : ℕ) (old new shares : List ℕ) (altered : ℕ) (shares' : List ℕ) (a : Answer ℕ) where
  abbrev run_number : ℕ
  run_number = fault_of rec (λ h. run_fault h l symbol first old new shares)

  abbrev count : ℕ
  count = run_count (header_of rec) l symbol first old new shares

  pub update_lanes_gives : (altered' r : ℕ) → r ≡ fault_in a → altered' ≡ result_unwrap_or a altered → RunSays rec l symbol first old new shares shares' a → UpdateLanesGives rec l symbol first old new shares altered shares' altered' r
  update_lanes_gives altered' r e v says =
      let number : r ≡ run_number = e ∙ ap fault_in says.promise.answered ∙ answer_number run_number count in
      let value : altered' ≡ pick (eqb run_number 0) count altered = v ∙ ap (λ (x : Answer ℕ). result_unwrap_or x altered) says.promise.answered ∙ counted_value count altered run_number in
      record {
        number = number;
        says = record { promise = record { answered = ap₂ answer_of number value ∙ counted_again count altered run_number; written = says.promise.written } };
        altered_is = rw number (value ∙ handed run_number altered (λ none. run_symbols_differ (header_of rec) l symbol first old new shares shares' (rw none at says.promise.written)));
      }
