-- What the calls of a repair by traces promise: the numbers that turn them away, the answer and every lent byte afterwards, and the same over a record.
use Rattle.generator.specs.Answers.{Answer, outcome_of, answer_of}
use Rattle.std.specs.Prelude.{◌≡◌, Bool, not, List, ℕ, ◌-◌, ◌*◌, eqb, length}
use Rattle.lists.specs.Choice.{pick, first_of, when}
use Rattle.lists.specs.Numbers.{is_in}
use Rattle.generator.specs.declared.Header.{Header}
use Rattle.generator.specs.Records.{width}
use Rattle.refusals.specs.Conditions.{lanes_bad, length_bad, number_bad, nodes_bad, twice_bad}
use Rattle.refusals.specs.Promise.{OnRecord}
use Rattle.traces.specs.Repairs.{bits, spare, sends}
use Rattle.repair.specs.declared.RepairPlan.{RepairPlan}
use Rattle.repair.specs.Packing.{packed_size}
use Rattle.repair.specs.Sent.{sent, repaired_share}

-- number 17: there is no repair by traces with so many nodes missing beside the target. Then b is 0, and so is the length of what is sent
unfoldable pub traces_bad : Header → ℕ → Bool
traces_bad h count = eqb (bits h count) 0

-- a target and the nodes that are missing beside it
unfoldable pub target_fault : Header → ℕ → List ℕ → ℕ
target_fault h target missing =
    first_of (when (number_bad h.n target) 9)
    (first_of (when (nodes_bad h missing) 9)
    (first_of (when (is_in target missing) 9)
    (first_of (when (twice_bad missing) 10)
    (when (traces_bad h (length missing)) 17))))

-- a node reads its share and writes what it sends
unfoldable pub repair_bits_fault : Header → ℕ → ℕ → ℕ → List ℕ → ℕ → ℕ → ℕ
repair_bits_fault h l j target missing share_len out_len =
    first_of (when (lanes_bad l) 7)
    (first_of (when (length_bad (l * width h) share_len) 8)
    (first_of (when (length_bad (packed_size (bits h (length missing)) l) out_len) 8)
    (first_of (when (number_bad h.n j) 9)
    (first_of (when (not (sends target missing j)) 9)
    (target_fault h target missing)))))

-- the target reads what the n − 1 others sent that are not missing, and writes its share
unfoldable pub repair_share_fault : Header → ℕ → ℕ → List ℕ → ℕ → ℕ → ℕ
repair_share_fault h l target missing rows_len out_len =
    first_of (when (lanes_bad l) 7)
    (first_of (when (length_bad ((h.n - 1 - length missing) * packed_size (bits h (length missing)) l) rows_len) 8)
    (first_of (when (length_bad (l * width h) out_len) 8)
    (target_fault h target missing)))

-- a planner asks with so many nodes missing beside the target
unfoldable pub repair_plan_fault : Header → ℕ → ℕ
repair_plan_fault h count = when (traces_bad h count) 17

-- what a node sends of its share: a digit of b bits for each lane, as b planes
pub record RepairBitsPromise (j target : ℕ) (missing share out out' : List ℕ) (answer : Answer (Unit {0})) (h : Header) (f : ℕ) : Type 0 where
  pub answered : answer ≡ outcome_of f
  pub written : out' ≡ pick (eqb f 0) (sent h target missing j share) out

-- the target's share: in every lane the sum of the parts of what came
pub record RepairSharePromise (l target : ℕ) (missing rows out out' : List ℕ) (answer : Answer (Unit {0})) (h : Header) (f : ℕ) : Type 0 where
  pub answered : answer ≡ outcome_of f
  pub written : out' ≡ pick (eqb f 0) (repaired_share h l target missing rows) out

-- the plan of a repair: the bits of a symbol that each node sends, and how many further nodes may be missing
pub record RepairPlanPromise (count : ℕ) (answer : Answer RepairPlan) (h : Header) (f : ℕ) : Type 0 where
  pub answered : answer ≡ answer_of f (record { bits = bits h count; spare = spare h count })

abbrev pub RepairBitsSays : List ℕ → ℕ → ℕ → ℕ → List ℕ → List ℕ → List ℕ → List ℕ → Answer (Unit {0}) → Type 0
RepairBitsSays rec l j target missing share out out' answer = OnRecord rec (λ h. repair_bits_fault h l j target missing (length share) (length out)) (RepairBitsPromise j target missing share out out' answer)

abbrev pub RepairShareSays : List ℕ → ℕ → ℕ → List ℕ → List ℕ → List ℕ → List ℕ → Answer (Unit {0}) → Type 0
RepairShareSays rec l target missing rows out out' answer = OnRecord rec (λ h. repair_share_fault h l target missing (length rows) (length out)) (RepairSharePromise l target missing rows out out' answer)

abbrev pub RepairPlanSays : List ℕ → ℕ → Answer RepairPlan → Type 0
RepairPlanSays rec count answer = OnRecord rec (λ h. repair_plan_fault h count) (RepairPlanPromise count answer)
