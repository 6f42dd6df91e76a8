-- From the answers of a repair's calls to what the functions of the C interface promise.
use Rattle.std.specs.Prelude.{Ok, Err}
use Rattle.generator.specs.Answers.{Answer, outcome_of, fault_in}
use mathlib.Core.Path.{◌≡◌, sym, ap}
use mathlib.Core.List.{List}
use Prim.Native.Nat.{ℕ}
use lib.ListN.{length}
use Rattle.generator.proofs.Answered.{done_is, value_is, refused_is}
use Rattle.refusals.specs.Faults.{fault_of}
use Rattle.blocks.proofs.Refused.{refused_value}
use Rattle.repair.specs.declared.RepairPlan.{RepairPlan}
use Rattle.repair.specs.Promise.{repair_bits_fault, repair_share_fault, repair_plan_fault, RepairBitsSays, RepairShareSays, RepairPlanSays}
use Rattle.balanced_c.specs.Repairs.{RepairPlanGives, RepairBitsGives, RepairShareGives}
use Rattle.balanced_c.proofs.Answers.{by_number}

pub bits_give : (rec : List ℕ) (l j target : ℕ) (missing share out out' : List ℕ) (a : Answer (Unit {0})) (r : ℕ) → r ≡ fault_in a → RepairBitsSays rec l j target missing share out out' a → RepairBitsGives rec l j target missing share out out' r
bits_give rec l j target missing share out out' a r e says =
    let number = by_number a r (fault_of rec (λ h. repair_bits_fault h l j target missing (length share) (length out))) e says.promise.answered in
    record { number = number; says = record { promise = record { answered = ap outcome_of number; written = says.promise.written } } }

pub share_gives : (rec : List ℕ) (l target : ℕ) (missing rows share share' : List ℕ) (a : Answer (Unit {0})) (r : ℕ) → r ≡ fault_in a → RepairShareSays rec l target missing rows share share' a → RepairShareGives rec l target missing rows share share' r
share_gives rec l target missing rows share share' a r e says =
    let number = by_number a r (fault_of rec (λ h. repair_share_fault h l target missing (length rows) (length share))) e says.promise.answered in
    record { number = number; says = record { promise = record { answered = ap outcome_of number; written = says.promise.written } } }

module _ (rec : List ℕ) (count b more : ℕ) where
  abbrev fault : ℕ
  fault = fault_of rec (λ h. repair_plan_fault h count)

  -- the plan
  pub plan_sends : (p : RepairPlan) → RepairPlanSays rec count (Ok p) → RepairPlanGives rec count b more p.bits p.spare 0
  plan_sends p says =
      let plan = value_is _ _ says.promise.answered in
      record { number = sym (done_is fault _ says.promise.answered); bits_are = ap (λ (q : RepairPlan). q.bits) plan; spare_is = ap (λ (q : RepairPlan). q.spare) plan }

  -- the number: both are as they were
  pub plan_refuses : (g : ℕ) → RepairPlanSays rec count (Err g) → RepairPlanGives rec count b more b more g
  plan_refuses g says =
      let (same, some) = refused_is fault _ g says.promise.answered in
      record { number = same; bits_are = sym (refused_value g _ b some); spare_is = sym (refused_value g _ more some) }
