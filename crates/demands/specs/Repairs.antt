-- Repair by traces: the numbers that turn its calls away, the plan, and what a target makes of what the nodes of one encoding send.
use Rattle.std.specs.Prelude.{Ok, Err}
use Rattle.generator.specs.Answers.{Answer}
use Rattle.std.specs.Prelude.{◌≡◌, ◌≢◌, ◌⊎◌, List, [], ◌∷◌, ◌++◌, ℕ, ◌+◌, ◌-◌, ◌*◌, ◌/◌, ◌%◌, ◌^◌, ◌≤◌, ◌<◌, length, get_or}
use Rattle.lists.specs.Rows.{rows_from}
use Rattle.generator.specs.declared.Header.{Header}
use Rattle.generator.specs.Records.{header_of, modulus_of, record_fault, width}
use Rattle.encode.specs.Promise.{EncodeSays}
use Rattle.recover.specs.Promise.{RebuildSays}
use Rattle.traces.specs.Traces.{TraceBits}
use Rattle.traces.specs.Repairs.{bits, senders, sent_digit}
use Rattle.traces.specs.Claims.{TraceLaws, BytesRepair}
use Rattle.repair_bound.specs.Additive.{RepairBound}
use Rattle.repair_bound.specs.Prices.{TracePrice}
use Rattle.repair.specs.declared.RepairPlan.{RepairPlan}
use Rattle.repair.specs.Promise.{RepairBitsSays, RepairShareSays, RepairPlanSays}
use Rattle.balanced_c.specs.Repairs.{RepairPlanGives, RepairBitsGives, RepairShareGives}
use Rattle.demands.specs.Judging.{Table, Judged, Returns}
use Rattle.demands.specs.Numbers.{SomeFrom, SomeTwice, kind, record_numbers, OtherLanes}
use Rattle.demands.specs.RoundTrips.{cut_of}

-- a number stands in a list
abbrev pub Listed : ℕ → List ℕ → Type 0
Listed x xs = (i : ℕ) × (i < length xs) × (get_or xs i 0 ≡ x)

-- number 17: the field has no 256 elements, or n − k is below 16 and the missing nodes
abbrev pub NoTraces : Header → ℕ → Type 0
NoTraces h count = (modulus_of h ≢ 0) ⊎ (h.n - h.k < 16 + count)

-- a target and the nodes that are missing beside it
abbrev pub target_numbers : Header → ℕ → List ℕ → Table
target_numbers h target missing =
    (9, h.n ≤ target)
    ∷ (9, SomeFrom h.n missing)
    ∷ (9, Listed target missing)
    ∷ (10, SomeTwice missing)
    ∷ (17, NoTraces h (length missing))
    ∷ []

-- repair_bits
abbrev pub repair_bits_numbers : Header → ℕ → ℕ → ℕ → List ℕ → ℕ → ℕ → Table
repair_bits_numbers h l j target missing share_len out_len =
    (7, OtherLanes l)
    ∷ (8, share_len ≢ l * width h)
    ∷ (8, out_len ≢ bits h (length missing) * ((l + 7) / 8))
    ∷ (9, h.n ≤ j)
    ∷ (9, (j ≡ target) ⊎ Listed j missing)
    ∷ target_numbers h target missing

-- repair_share
abbrev pub repair_share_numbers : Header → ℕ → ℕ → List ℕ → ℕ → ℕ → Table
repair_share_numbers h l target missing rows_len out_len =
    (7, OtherLanes l)
    ∷ (8, rows_len ≢ (h.n - 1 - length missing) * (bits h (length missing) * ((l + 7) / 8)))
    ∷ (8, out_len ≢ l * width h)
    ∷ target_numbers h target missing

-- repair_plan
abbrev pub repair_plan_numbers : Header → ℕ → Table
repair_plan_numbers h count = (17, NoTraces h count) ∷ []

-- a plan of b bits, with so many nodes missing and so many more that may be: n − k is used up, and no fewer bits do
pub record PlanDone (h : Header) (count b more : ℕ) : Type 0 where
  pub field : modulus_of h ≡ 0
  pub bits : TraceBits b
  pub uses : 2 ^ (8 - b) + count + more ≡ h.n - h.k
  pub least : (b' : ℕ) → TraceBits b' → 2 ^ (8 - b') + count ≤ h.n - h.k → b ≤ b'

-- what a node wrote that sends: bit e of the digit of lane t stands at bit t mod 8 of byte t / 8 of plane e
pub record BitsDone (h : Header) (l j target : ℕ) (missing share out : List ℕ) : Type 0 where
  pub long : length out ≡ bits h (length missing) * ((l + 7) / 8)
  pub digits : (t e : ℕ) → t < l → e < bits h (length missing) → get_or out (e * ((l + 7) / 8) + t / 8) 0 / 2 ^ (t % 8) % 2 ≡ sent_digit h target missing j (get_or share t 0) / 2 ^ e % 2

-- of shares that Encode wrote, each node that sends did so with its own symbols: the i-th of them wrote `by i`
abbrev pub AllSent : List ℕ → ℕ → ℕ → List ℕ → List ℕ → (ℕ → List ℕ) → Type 0
AllSent rec l target missing shares by =
    let h = header_of rec in
    let js = senders h target missing in
    (i : ℕ) → i < length js → (out : List ℕ) × RepairBitsSays rec l (get_or js i 0) target missing (cut_of h l (get_or js i 0 ∷ []) shares) out (by i) (Ok tt)

-- what the target is lent: what they wrote, one after the other
abbrev pub in_order : List ℕ → ℕ → List ℕ → (ℕ → List ℕ) → List ℕ
in_order rec target missing by = rows_from by 0 (length (senders (header_of rec) target missing))

pub record Repairs : Type 0 where
  -- which number turns each call away; no byte is written then
  pub bits_judged : (rec : List ℕ) (l j target : ℕ) (missing share out out' : List ℕ) (answer : Answer (Unit {0})) → RepairBitsSays rec l j target missing share out out' answer
      → Judged (record_numbers rec ++ repair_bits_numbers (header_of rec) l j target missing (length share) (length out)) (λ f. answer ≡ Err f) (out' ≡ out)
  pub share_judged : (rec : List ℕ) (l target : ℕ) (missing rows out out' : List ℕ) (answer : Answer (Unit {0})) → RepairShareSays rec l target missing rows out out' answer
      → Judged (record_numbers rec ++ repair_share_numbers (header_of rec) l target missing (length rows) (length out)) (λ f. answer ≡ Err f) (out' ≡ out)
  pub plan_judged : (rec : List ℕ) (count : ℕ) (answer : Answer RepairPlan) → RepairPlanSays rec count answer
      → Judged (record_numbers rec ++ repair_plan_numbers (header_of rec) count) (λ f. answer ≡ Err f) (Unit {0})
  -- the same of the functions for C; no lent number is altered either
  pub bits_returns : (rec : List ℕ) (l j target : ℕ) (missing share out out' : List ℕ) (f : ℕ) → RepairBitsGives rec l j target missing share out out' f
      → Judged (record_numbers rec ++ repair_bits_numbers (header_of rec) l j target missing (length share) (length out)) (Returns f) (out' ≡ out)
  pub share_returns : (rec : List ℕ) (l target : ℕ) (missing rows share share' : List ℕ) (f : ℕ) → RepairShareGives rec l target missing rows share share' f
      → Judged (record_numbers rec ++ repair_share_numbers (header_of rec) l target missing (length rows) (length share)) (Returns f) (share' ≡ share)
  pub plan_returns : (rec : List ℕ) (count b more b' more' f : ℕ) → RepairPlanGives rec count b more b' more' f
      → Judged (record_numbers rec ++ repair_plan_numbers (header_of rec) count) (Returns f) ((b' ≡ b) × (more' ≡ more))
  -- the plan
  pub plan : (rec : List ℕ) (count b more : ℕ) → RepairPlanSays rec count (Ok (record { bits = b; spare = more })) → PlanDone (header_of rec) count b more
  -- what a node sends
  pub sends : (rec : List ℕ) (l j target : ℕ) (missing share out out' : List ℕ) → RepairBitsSays rec l j target missing share out out' (Ok tt) → BitsDone (header_of rec) l j target missing share out'
  -- from what the other nodes send of one encoding the target writes its own symbols of it, in every lane ..
  pub repairs : (rec : List ℕ) (l : ℕ) (message out shares : List ℕ) (target : ℕ) (missing : List ℕ) (by : ℕ → List ℕ) (back back' : List ℕ)
      → EncodeSays rec l message out shares (Ok tt) → AllSent rec l target missing shares by → RepairShareSays rec l target missing (in_order rec target missing by) back back' (Ok tt)
      → back' ≡ cut_of (header_of rec) l (target ∷ []) shares
  -- .. which is what Rebuild writes from any k shares of it
  pub rebuilds : (rec : List ℕ) (l : ℕ) (message out shares : List ℕ) (target : ℕ) (missing : List ℕ) (by : ℕ → List ℕ) (back back' nodes other other' : List ℕ)
      → EncodeSays rec l message out shares (Ok tt) → AllSent rec l target missing shares by → RepairShareSays rec l target missing (in_order rec target missing by) back back' (Ok tt) → RebuildSays rec l nodes (cut_of (header_of rec) l nodes shares) target other other' (Ok tt)
      → back' ≡ other'
  -- the theory: every accepted record of kind 2 has it, and how many bits are moved
  pub traces : TraceLaws
  pub bytes : (rec : List ℕ) → record_fault rec ≡ 0 → kind rec ≡ 2 → BytesRepair (header_of rec)
  -- the least that any additive repair moves, and the repair by traces beside it
  pub least : (rec : List ℕ) → record_fault rec ≡ 0 → kind rec ≡ 2 → RepairBound (header_of rec)
  pub price : (rec : List ℕ) → record_fault rec ≡ 0 → kind rec ≡ 2 → TracePrice (header_of rec)
