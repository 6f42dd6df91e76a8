-- The list of the small plans, sentence by sentence. The program writes the text `small_plans`.
use Rattle.std.specs.Prelude.{◌≡◌, ◌⊎◌, List, [], ◌∷◌, ◌++◌, ℕ, ◌≤◌, ◌<◌, length, get_or}
use Rattle.generator.specs.Records.{record_fault}
use Rattle.text.specs.Text.{decimal, line}
use Rattle.small_plans_text.specs.SmallPlans.{small_plans}

-- what a record of kind 1 holds
pub record SmallPlan : Type 0 where
  pub p : ℕ
  pub root : ℕ
  pub n : ℕ
  pub k : ℕ

-- the record
abbrev pub as_record : SmallPlan → List ℕ
as_record plan = 1 ∷ plan.p ∷ plan.root ∷ plan.n ∷ plan.k ∷ []

-- its line: p root n k
abbrev pub as_line : SmallPlan → List ℕ
as_line plan = line (decimal plan.p) (plan.root ∷ plan.n ∷ plan.k ∷ [])

-- line after line
unfoldable pub as_text : List SmallPlan → List ℕ
as_text [] = []
as_text (plan ∷ plans) = as_line plan ++ as_text plans

-- the plan at place i; past the end it is of no record
abbrev pub plan_at : List SmallPlan → ℕ → SmallPlan
plan_at plans i = get_or plans i (record { p = 0; root = 0; n = 0; k = 0 })

-- ordered by p, then by the root, then by k
abbrev pub Before : SmallPlan → SmallPlan → Type 0
Before plan plan' = (plan.p < plan'.p) ⊎ ((plan.p ≡ plan'.p) × ((plan.root < plan'.root) ⊎ ((plan.root ≡ plan'.root) × (plan.k < plan'.k))))

pub record SmallPlans : Type 0 where
  -- the text is the lines of a list of plans ..
  pub plans : List SmallPlan
  pub text : small_plans ≡ as_text plans
  -- .. in which every accepted record of kind 1 with p up to 31 stands, and no other ..
  pub each : (plan : SmallPlan) → record_fault (as_record plan) ≡ 0 → plan.p ≤ 31 → (i : ℕ) × (i < length plans) × (plan_at plans i ≡ plan)
  pub other : (i : ℕ) → i < length plans → (record_fault (as_record (plan_at plans i)) ≡ 0) × ((plan_at plans i).p ≤ 31)
  -- .. in order, so none twice
  pub ordered : (i i' : ℕ) → i < i' → i' < length plans → Before (plan_at plans i) (plan_at plans i')
  -- the first three lines
  pub first : (rest : List ℕ) × (small_plans ≡ as_line (record { p = 3; root = 2; n = 2; k = 1 }) ++ (as_line (record { p = 3; root = 2; n = 2; k = 2 }) ++ (as_line (record { p = 5; root = 2; n = 4; k = 1 }) ++ rest)))
