-- Records and plans, sentence by sentence: what a record of each kind holds, and what `build_plan` gives.
use Rattle.std.specs.Prelude.{◌≡◌, Ok, Err, List, [], ◌∷◌, ℕ, ◌+◌, ◌-◌, ◌*◌, ◌/◌, ◌%◌, ◌≤◌, ◌<◌, length, get_or}
use Rattle.field.specs.declared.Field.TheVariants.{Prime, Binary}
use Rattle.field.specs.Kinds.{prime_of, gf256}
use Rattle.generator.specs.declared.Header.{Header}
use Rattle.generator.specs.Answers.{Answer}
use Rattle.generator.specs.Records.{header_of, record_fault}
use Rattle.generator.specs.Shifts.{shifts}
use Rattle.generator.specs.Generator.{entry}
use Rattle.plan.specs.declared.Plan.{Plan}
use Rattle.plan.specs.Plans.{PlanSays}
use Rattle.demands.specs.Judging.{Judged}
use Rattle.demands.specs.Numbers.{record_numbers}

-- the plan of a header: places beyond the k shifts, the k first nodes and the n entries hold 0
pub record PlanHolds (h : Header) (plan : Plan) : Type 0 where
  pub n : plan.n ≡ h.n
  pub k : plan.k ≡ h.k
  pub d : plan.d ≡ h.n - h.k + 1
  -- k·d / n rounded down and up
  pub low : plan.low ≡ h.k * (h.n - h.k + 1) / h.n
  pub high : plan.high ≡ (h.k * (h.n - h.k + 1) + (h.n - 1)) / h.n
  pub places : (length plan.shifts ≡ 255) × (length plan.firsts ≡ 255) × (length plan.base ≡ 255)
  -- a row's shift, and its first node, (−shift) mod n
  pub shift : (r : ℕ) → r < h.k → get_or plan.shifts r 0 ≡ get_or (shifts h) r 0
  pub first : (r : ℕ) → r < h.k → get_or plan.firsts r 0 ≡ (h.n - get_or plan.shifts r 0) % h.n
  -- entry (r, j) is the base word at (j + shift) mod n
  pub entries : (r j : ℕ) → r < h.k → j < h.n → entry h r j ≡ get_or plan.base ((j + get_or plan.shifts r 0) % h.n) 0
  pub beyond : (i : ℕ) → (h.k ≤ i → (get_or plan.shifts i 0 ≡ 0) × (get_or plan.firsts i 0 ≡ 0)) × (h.n ≤ i → get_or plan.base i 0 ≡ 0)

pub record Plans : Type 0 where
  -- what a record of each kind holds; in kind 3 two bytes make a number, the high one first
  pub kind_1 : (p root n k : ℕ) → header_of (1 ∷ p ∷ root ∷ n ∷ k ∷ []) ≡ record { field = Prime (prime_of p); root = root; n = n; k = k }
  pub kind_2 : (root n k : ℕ) → header_of (2 ∷ root ∷ n ∷ k ∷ []) ≡ record { field = Binary gf256; root = root; n = n; k = k }
  pub kind_3 : (p₁ p₂ root₁ root₂ n k : ℕ) → header_of (3 ∷ p₁ ∷ p₂ ∷ root₁ ∷ root₂ ∷ n ∷ k ∷ []) ≡ record { field = Prime (prime_of (256 * p₁ + p₂)); root = 256 * root₁ + root₂; n = n; k = k }
  -- the plan of an accepted record
  pub accepted : (rec : List ℕ) (answer : Answer Plan) → PlanSays rec answer → record_fault rec ≡ 0 → (plan : Plan) × (answer ≡ Ok plan) × PlanHolds (header_of rec) plan
  -- which number turns a record away; a record that gives a plan is accepted
  pub number : (rec : List ℕ) (answer : Answer Plan) → PlanSays rec answer → Judged (record_numbers rec) (λ f. answer ≡ Err f) (Unit {0})
