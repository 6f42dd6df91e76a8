-- From the answers of the calls that set a block right, and listed shares, to what the functions of the C interface promise.
use Rattle.std.specs.Prelude.{Ok, sum}
use Rattle.std.specs.Result.{result_unwrap_or}
use Rattle.generator.specs.Answers.{Answer, answer_of, fault_in}
use mathlib.Core.Path.{◌≡◌, sym, ap, ap₂, ◌∙◌}
use mathlib.Core.List.{List}
use Prim.Native.Nat.{ℕ}
use lib.Dec.{eqb}
use lib.ListN.{length}
use Rattle.lists.specs.Choice.{pick}
use Rattle.layout.specs.Layout.{share_layout}
use Rattle.generator.specs.Records.{header_of}
use Rattle.generator.proofs.Answered.{answer_number}
use Rattle.refusals.specs.Faults.{fault_of}
use Rattle.correct.specs.Blocks.{corrected_count}
use Rattle.correct.specs.Promise.{correct_fault, CorrectSays}
use Rattle.correct.proofs.Answered.{counted}
use Rattle.correct_listed.specs.Blocks.{wrong_numbers}
use Rattle.correct_listed.specs.Promise.{correct_listed_fault, CorrectListedSays}
use Rattle.balanced_c.specs.Corrections.{CorrectGives, CorrectListedGives}
use Rattle.balanced_c.proofs.Answers.{counted_value, counted_again, handed}

module _ (rec : List ℕ) (l : ℕ) (shares : List ℕ) (altered : ℕ) (shares' : List ℕ) (a : Answer ℕ) (says : CorrectSays rec l shares shares' a) where
  abbrev f : ℕ
  f = fault_of rec (λ h. correct_fault share_layout h l shares)

  abbrev count : ℕ
  count = corrected_count share_layout (header_of rec) l shares

  -- a block that was set right
  done : f ≡ 0 → CorrectSays rec l shares shares' (Ok count)
  unfolding answer_of
  done none = record { promise = record { answered = rw none; written = says.promise.written } }

  pub correct_gives : (altered' r : ℕ) → r ≡ fault_in a → altered' ≡ result_unwrap_or a altered → CorrectGives rec l shares altered shares' altered' r
  correct_gives altered' r e v =
      let number : r ≡ f = e ∙ ap fault_in says.promise.answered ∙ answer_number f count in
      let value : altered' ≡ pick (eqb f 0) count altered = v ∙ ap (λ (x : Answer ℕ). result_unwrap_or x altered) says.promise.answered ∙ counted_value count altered f in
      record {
        number = number;
        says = record { promise = record { answered = ap₂ answer_of number value ∙ counted_again count altered f; written = says.promise.written } };
        altered_is = rw number (value ∙ handed f altered (λ none. counted rec l shares shares' count (done none)));
      }

module _ (rec : List ℕ) (l : ℕ) (nodes shares out wrong : List ℕ) (altered : ℕ) (out' wrong' : List ℕ) (a : Answer ℕ) (says : CorrectListedSays rec l nodes shares out out' wrong wrong' a) where
  abbrev g : ℕ
  g = fault_of rec (λ h. correct_listed_fault share_layout h l nodes shares (length out) (length wrong))

  abbrev total : ℕ
  total = sum (wrong_numbers share_layout (header_of rec) nodes l shares)

  pub listed_gives : (altered' r : ℕ) → r ≡ fault_in a → altered' ≡ result_unwrap_or a altered → CorrectListedGives rec l nodes shares out wrong altered out' wrong' altered' r
  listed_gives altered' r e v =
      let number : r ≡ g = e ∙ ap fault_in says.promise.answered ∙ answer_number g total in
      let value : altered' ≡ pick (eqb g 0) total altered = v ∙ ap (λ (x : Answer ℕ). result_unwrap_or x altered) says.promise.answered ∙ counted_value total altered g in
      record {
        number = number;
        says = record { promise = record { answered = ap₂ answer_of number value ∙ counted_again total altered g; written = says.promise.written; counted = says.promise.counted } };
        altered_is = rw number (value ∙ handed g altered (λ none. ap sum (sym (rw none at says.promise.counted))));
      }
