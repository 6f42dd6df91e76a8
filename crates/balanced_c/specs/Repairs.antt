-- What the functions of a repair by traces promise.
use Rattle.std.specs.Prelude.{◌≡◌, List, ℕ, eqb, length}
use Rattle.lists.specs.Choice.{pick}
use Rattle.generator.specs.Records.{header_of}
use Rattle.refusals.specs.Faults.{fault_of}
use Rattle.generator.specs.Answers.{outcome_of}
use Rattle.traces.specs.Repairs.{bits, spare}
use Rattle.repair.specs.Promise.{repair_bits_fault, repair_share_fault, repair_plan_fault, RepairBitsSays, RepairShareSays}

-- `balanced_repair_plan`: the number, the bits of a symbol that each node sends, and how many further nodes may be missing
pub record RepairPlanGives (rec : List ℕ) (count b more b' more' f : ℕ) : Type 0 where
  pub number : f ≡ fault_of rec (λ h. repair_plan_fault h count)
  pub bits_are : b' ≡ pick (eqb f 0) (bits (header_of rec) count) b
  pub spare_is : more' ≡ pick (eqb f 0) (spare (header_of rec) count) more

-- `balanced_repair_bits`: the number, and what the call says of what a node sends
pub record RepairBitsGives (rec : List ℕ) (l j target : ℕ) (missing share out out' : List ℕ) (f : ℕ) : Type 0 where
  pub number : f ≡ fault_of rec (λ h. repair_bits_fault h l j target missing (length share) (length out))
  pub says : RepairBitsSays rec l j target missing share out out' (outcome_of f)

-- `balanced_repair_share`: the number, and what the call says of the target's share
pub record RepairShareGives (rec : List ℕ) (l target : ℕ) (missing rows share share' : List ℕ) (f : ℕ) : Type 0 where
  pub number : f ≡ fault_of rec (λ h. repair_share_fault h l target missing (length rows) (length share))
  pub says : RepairShareSays rec l target missing rows share share' (outcome_of f)
