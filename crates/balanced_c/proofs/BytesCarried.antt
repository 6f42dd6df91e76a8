-- From the answers of the calls that carry bytes, and of the one that gives a record, to what their functions for C promise.
use Rattle.std.specs.Prelude.{Ok, Err}
use Rattle.std.specs.Result.{result_unwrap_or}
use Rattle.generator.specs.Answers.{Answer, answer_of, outcome_of, fault_in}
use mathlib.Core.Path.{◌≡◌, refl, sym, ap, ap₂, ◌∙◌}
use mathlib.Core.List.{List}
use Prim.Native.Nat.{ℕ}
use lib.Dec.{eqb}
use lib.ListN.{length}
use Rattle.lists.specs.Choice.{pick}
use Rattle.generator.proofs.Answered.{done_is, value_is, refused_is, answer_number}
use Rattle.refusals.specs.Faults.{fault_of}
use Rattle.blocks.proofs.Refused.{refused_value}
use Rattle.carry.specs.Promise.{carried_len_fault, carry_in_fault, carry_out_fault, carry_change_fault, CarriedLenSays, CarryInSays, CarryOutSays, CarryChangeSays}
use Rattle.choose.specs.Promise.{chosen_record, choose_fault, ChooseSays}
use Rattle.balanced_c.specs.BytesCarried.{CarriedLenGives, CarryInGives, CarryOutGives, CarryChangeGives, ChooseGives}
use Rattle.balanced_c.proofs.Answers.{by_number, with_value, counted_value, counted_again}

pub carry_in_gives : (rec bytes out out' : List ℕ) (a : Answer (Unit {0})) (r : ℕ) → r ≡ fault_in a → CarryInSays rec bytes out out' a → CarryInGives rec bytes out out' r
carry_in_gives rec bytes out out' a r e says =
    let number = by_number a r (fault_of rec (λ h. carry_in_fault h (length bytes) (length out))) e says.promise.answered in
    record { number = number; says = record { promise = record { answered = ap outcome_of number; written = says.promise.written } } }

pub carry_out_gives : (rec symbols out out' : List ℕ) (a : Answer (Unit {0})) (r : ℕ) → r ≡ fault_in a → CarryOutSays rec symbols out out' a → CarryOutGives rec symbols out out' r
carry_out_gives rec symbols out out' a r e says =
    let number = by_number a r (fault_of rec (λ h. carry_out_fault h (length out) symbols)) e says.promise.answered in
    record { number = number; says = record { promise = record { answered = ap outcome_of number; written = says.promise.written } } }

pub carry_change_gives : (rec : List ℕ) (n at : ℕ) (bytes symbols symbols' : List ℕ) (a : Answer (Unit {0})) (r : ℕ) → r ≡ fault_in a → CarryChangeSays rec n at bytes symbols symbols' a → CarryChangeGives rec n at bytes symbols symbols' r
carry_change_gives rec n at bytes symbols symbols' a r e says =
    let number = by_number a r (fault_of rec (λ h. carry_change_fault h n at (length bytes) symbols)) e says.promise.answered in
    record { number = number; says = record { promise = record { answered = ap outcome_of number; written = says.promise.written } } }

module _ (rec : List ℕ) (n carried : ℕ) where
  abbrev fault : ℕ
  fault = fault_of rec (λ h. carried_len_fault h n)

  -- the length
  pub length_given : (count : ℕ) → CarriedLenSays rec n (Ok count) → CarriedLenGives rec n carried count 0
  length_given count says = record { number = sym (done_is fault _ says.promise.answered); carried_is = value_is _ _ says.promise.answered }

  -- the number: the length is as it was
  pub length_refused : (g : ℕ) → CarriedLenSays rec n (Err g) → CarriedLenGives rec n carried carried g
  length_refused g says =
      let (same, some) = refused_is fault _ g says.promise.answered in
      record { number = same; carried_is = sym (refused_value g _ carried some) }

-- the same number, as another type
widened : (a : Answer ℕ) → with_value (λ x. x) a ≡ a
widened (Ok x) = refl
widened (Err g) = refl

pub choose_gives : (n k : ℕ) (out : List ℕ) (len : ℕ) (out' : List ℕ) (a : Answer ℕ) (len' r : ℕ) → r ≡ fault_in (with_value (λ x. x) a) → len' ≡ result_unwrap_or (with_value (λ x. x) a) len → ChooseSays n k out out' a → ChooseGives n k out len out' len' r
choose_gives n k out len out' a len' r e v says =
    let f = choose_fault n k (length out) in
    let count = length (chosen_record n k) in
    let same = widened a ∙ says.answered in
    let number : r ≡ f = e ∙ ap fault_in same ∙ answer_number f count in
    let value : len' ≡ pick (eqb f 0) count len = v ∙ ap (λ (x : Answer ℕ). result_unwrap_or x len) same ∙ counted_value count len f in
    record {
      number = number;
      says = record { answered = ap₂ answer_of number value ∙ counted_again count len f; written = says.written };
      len_is = rw number value;
    }
