-- What the functions that carry bytes promise, and the one that gives a record for n and k.
use Rattle.std.specs.Prelude.{◌≡◌, List, ℕ, eqb, length}
use Rattle.lists.specs.Choice.{pick}
use Rattle.generator.specs.Answers.{answer_of, outcome_of}
use Rattle.generator.specs.Records.{header_of, modulus_of}
use Rattle.refusals.specs.Faults.{fault_of}
use Rattle.carrying.specs.Carrying.{carried_length}
use Rattle.carry.specs.Promise.{carried_len_fault, carry_in_fault, carry_out_fault, carry_change_fault, CarryInSays, CarryOutSays, CarryChangeSays}
use Rattle.choose.specs.Promise.{chosen_record, choose_fault, ChooseSays}

-- `balanced_carried_len`: the number, and how many bytes carry `count` where there is none
pub record CarriedLenGives (rec : List ℕ) (count carried carried' f : ℕ) : Type 0 where
  pub number : f ≡ fault_of rec (λ h. carried_len_fault h count)
  pub carried_is : carried' ≡ pick (eqb f 0) (carried_length (modulus_of (header_of rec)) count) carried

-- `balanced_carry_in`: the number, and what the call says of the symbols
pub record CarryInGives (rec bytes out out' : List ℕ) (f : ℕ) : Type 0 where
  pub number : f ≡ fault_of rec (λ h. carry_in_fault h (length bytes) (length out))
  pub says : CarryInSays rec bytes out out' (outcome_of f)

-- `balanced_carry_out`: the number, and what the call says of the bytes
pub record CarryOutGives (rec symbols out out' : List ℕ) (f : ℕ) : Type 0 where
  pub number : f ≡ fault_of rec (λ h. carry_out_fault h (length out) symbols)
  pub says : CarryOutSays rec symbols out out' (outcome_of f)

-- `balanced_carry_change`: the number, and what the call says of the symbols
pub record CarryChangeGives (rec : List ℕ) (count at : ℕ) (bytes symbols symbols' : List ℕ) (f : ℕ) : Type 0 where
  pub number : f ≡ fault_of rec (λ h. carry_change_fault h count at (length bytes) symbols)
  pub says : CarryChangeSays rec count at bytes symbols symbols' (outcome_of f)

-- `balanced_choose`: the number, what the call says of the record, and how many bytes it has
pub record ChooseGives (n k : ℕ) (out : List ℕ) (len : ℕ) (out' : List ℕ) (len' f : ℕ) : Type 0 where
  pub number : f ≡ choose_fault n k (length out)
  pub says : ChooseSays n k out out' (answer_of f len')
  pub len_is : len' ≡ pick (eqb f 0) (length (chosen_record n k)) len
