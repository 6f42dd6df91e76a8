-- Demand 1 of the interface for C: which number each function returns, and that beside it no byte and no number that the caller lent is altered. 0 is done.
use Rattle.std.specs.Prelude.{◌≡◌, ◌≢◌, ◌↔◌, Ok, List, [], ◌∷◌, ◌++◌, ℕ, length}
use Rattle.generator.specs.Records.{header_of}
use Rattle.plan.specs.declared.Plan.{Plan}
use Rattle.plan.specs.Plans.{PlanSays}
use Rattle.balanced_c.specs.Calls.{PlanGives, EncodeGives, UpdateGives, RecoverGives, RebuildGives, BelongsGives, ToLanesGives, ToNodesGives, ListedToLanesGives, ListedToNodesGives, WeightsGive}
use Rattle.balanced_c.specs.Corrections.{CorrectGives, CorrectListedGives}
use Rattle.balanced_c.specs.RowChanges.{DifferencesGives, AddGives, UpdateLanesGives}
use Rattle.balanced_c.specs.Lanes.{FindGives, MendsGive}
use Rattle.demands.specs.Calls.{read, AllWords, SmallestWrong}
use Rattle.demands.specs.Findings.{InNumbers}
use Rattle.demands.specs.Judging.{Table, Judged, Returns}
use Rattle.demands.specs.Numbers.{record_numbers, encode_numbers, update_numbers, run_numbers, recover_numbers, rebuild_numbers, belongs_numbers, correct_numbers, correct_listed_numbers, rearrange_numbers, differences_numbers, add_numbers, find_numbers, mends_numbers, weights_numbers}

-- `balanced_plan`: the lengths of its four buffers
abbrev pub plan_numbers : ℕ → ℕ → ℕ → ℕ → Table
plan_numbers numbers_len shifts_len firsts_len base_len = (8, numbers_len ≢ 5) ∷ (8, shifts_len ≢ 255) ∷ (8, firsts_len ≢ 255) ∷ (8, base_len ≢ 255) ∷ []

-- it wrote the parts of a plan
pub record PlanWritten (rec numbers shifts firsts base : List ℕ) : Type 0 where
  pub plan : Plan
  pub is_plan : PlanSays rec (Ok plan)
  pub numbers_are : numbers ≡ plan.n ∷ plan.k ∷ plan.d ∷ plan.low ∷ plan.high ∷ []
  pub shifts_are : shifts ≡ plan.shifts
  pub firsts_are : firsts ≡ plan.firsts
  pub base_is : base ≡ plan.base

pub record Interface : Type 0 where
  -- balanced_plan, from the lengths of its four buffers
  pub plan : (rec numbers shifts firsts base numbers' shifts' firsts' base' : List ℕ) (f : ℕ) → PlanGives rec numbers shifts firsts base numbers' shifts' firsts' base' f
      → Judged (record_numbers rec ++ plan_numbers (length numbers) (length shifts) (length firsts) (length base)) (Returns f) ((numbers' ≡ numbers) × (shifts' ≡ shifts) × (firsts' ≡ firsts) × (base' ≡ base))
  -- where it returns 0, the buffers hold the plan of the record
  pub plan_done : (rec numbers shifts firsts base numbers' shifts' firsts' base' : List ℕ) → PlanGives rec numbers shifts firsts base numbers' shifts' firsts' base' 0 → PlanWritten rec numbers' shifts' firsts' base'
  -- balanced_encode
  pub encode : (rec : List ℕ) (l : ℕ) (message shares shares' : List ℕ) (f : ℕ) → EncodeGives rec l message shares shares' f
      → Judged (record_numbers rec ++ encode_numbers (header_of rec) l message (length shares)) (Returns f) (shares' ≡ shares)
  -- balanced_update: `altered` is left too
  pub update : (rec : List ℕ) (l r t old new : ℕ) (shares : List ℕ) (altered : ℕ) (shares' : List ℕ) (altered' f : ℕ) → UpdateGives rec l r t old new shares altered shares' altered' f
      → Judged (record_numbers rec ++ update_numbers (header_of rec) l r t old new shares) (Returns f) ((shares' ≡ shares) × (altered' ≡ altered))
  -- balanced_update_lanes: likewise
  pub update_lanes : (rec : List ℕ) (l r first : ℕ) (old new shares : List ℕ) (altered : ℕ) (shares' : List ℕ) (altered' f : ℕ) → UpdateLanesGives rec l r first old new shares altered shares' altered' f
      → Judged (record_numbers rec ++ run_numbers (header_of rec) l r first old new shares) (Returns f) ((shares' ≡ shares) × (altered' ≡ altered))
  -- balanced_recover
  pub recover : (rec : List ℕ) (l : ℕ) (nodes shares message message' : List ℕ) (f : ℕ) → RecoverGives rec l nodes shares message message' f
      → Judged (record_numbers rec ++ recover_numbers (header_of rec) l nodes shares (length message)) (Returns f) (message' ≡ message)
  -- balanced_rebuild
  pub rebuild : (rec : List ℕ) (l : ℕ) (nodes shares : List ℕ) (target : ℕ) (share share' : List ℕ) (f : ℕ) → RebuildGives rec l nodes shares target share share' f
      → Judged (record_numbers rec ++ rebuild_numbers (header_of rec) l nodes shares target (length share)) (Returns f) (share' ≡ share)
  -- balanced_belongs: `first_wrong` is left
  pub belongs : (rec : List ℕ) (l : ℕ) (shares : List ℕ) (first first' f : ℕ) → BelongsGives rec l shares first first' f
      → Judged (record_numbers rec ++ belongs_numbers (header_of rec) l shares) (Returns f) (first' ≡ first)
  -- where it returns 0, `first_wrong` is the number of lanes exactly if every lane is a word of the code, and else the smallest lane that is none
  pub belongs_done : (rec : List ℕ) (l : ℕ) (shares : List ℕ) (first first' : ℕ) → BelongsGives rec l shares first first' 0
      → ((first' ≡ l) ↔ AllWords (header_of rec) l shares) × (first' ≢ l → SmallestWrong (header_of rec) l shares first')
  -- balanced_correct: `altered` is left too
  pub correct : (rec : List ℕ) (l : ℕ) (shares : List ℕ) (altered : ℕ) (shares' : List ℕ) (altered' f : ℕ) → CorrectGives rec l shares altered shares' altered' f
      → Judged (record_numbers rec ++ correct_numbers (header_of rec) l shares) (Returns f) ((shares' ≡ shares) × (altered' ≡ altered))
  -- balanced_correct_listed: `altered` is left too
  pub correct_listed : (rec : List ℕ) (l : ℕ) (nodes shares out wrong : List ℕ) (altered : ℕ) (out' wrong' : List ℕ) (altered' f : ℕ) → CorrectListedGives rec l nodes shares out wrong altered out' wrong' altered' f
      → Judged (record_numbers rec ++ correct_listed_numbers (header_of rec) l nodes shares (length out) (length wrong)) (Returns f) ((out' ≡ out) × (wrong' ≡ wrong) × (altered' ≡ altered))
  -- balanced_to_lanes
  pub into_lanes : (rec : List ℕ) (l : ℕ) (source out out' : List ℕ) (f : ℕ) → ToLanesGives rec l source out out' f
      → Judged (record_numbers rec ++ rearrange_numbers (header_of rec) (header_of rec).n l (length source) (length out)) (Returns f) (out' ≡ out)
  -- balanced_to_nodes
  pub into_nodes : (rec : List ℕ) (l : ℕ) (source out out' : List ℕ) (f : ℕ) → ToNodesGives rec l source out out' f
      → Judged (record_numbers rec ++ rearrange_numbers (header_of rec) (header_of rec).n l (length source) (length out)) (Returns f) (out' ≡ out)
  -- balanced_listed_to_lanes
  pub listed_to_lanes : (rec : List ℕ) (l : ℕ) (source out out' : List ℕ) (f : ℕ) → ListedToLanesGives rec l source out out' f
      → Judged (record_numbers rec ++ rearrange_numbers (header_of rec) (header_of rec).k l (length source) (length out)) (Returns f) (out' ≡ out)
  -- balanced_listed_to_nodes
  pub listed_to_nodes : (rec : List ℕ) (l : ℕ) (source out out' : List ℕ) (f : ℕ) → ListedToNodesGives rec l source out out' f
      → Judged (record_numbers rec ++ rearrange_numbers (header_of rec) (header_of rec).k l (length source) (length out)) (Returns f) (out' ≡ out)
  -- balanced_differences
  pub differences : (rec : List ℕ) (l r : ℕ) (old new out out' : List ℕ) (f : ℕ) → DifferencesGives rec l r old new out out' f
      → Judged (record_numbers rec ++ differences_numbers (header_of rec) l r old new (length out)) (Returns f) (out' ≡ out)
  -- balanced_add_share
  pub add_share : (rec : List ℕ) (l : ℕ) (difference share share' : List ℕ) (f : ℕ) → AddGives rec l difference share share' f
      → Judged (record_numbers rec ++ add_numbers (header_of rec) l difference share) (Returns f) (share' ≡ share)
  -- balanced_find_update: all three numbers are left
  pub find : (rec before after : List ℕ) (found symbol amount found' symbol' amount' f : ℕ) → FindGives rec before after found symbol amount found' symbol' amount' f
      → Judged (record_numbers rec ++ find_numbers (header_of rec) before after) (Returns f) ((found' ≡ found) × (symbol' ≡ symbol) × (amount' ≡ amount))
  -- where it returns 0, the finding in numbers
  pub find_done : (rec before after : List ℕ) (found symbol amount found' symbol' amount' : ℕ) → FindGives rec before after found symbol amount found' symbol' amount' 0
      → InNumbers (header_of rec) (read (header_of rec) before) (read (header_of rec) after) found' symbol' amount'
  -- balanced_mends: `count` is left too
  pub mends : (rec lane nodes symbols : List ℕ) (count : ℕ) (nodes' symbols' : List ℕ) (count' f : ℕ) → MendsGive rec lane nodes symbols count nodes' symbols' count' f
      → Judged (record_numbers rec ++ mends_numbers (header_of rec) lane (length nodes) (length symbols)) (Returns f) ((nodes' ≡ nodes) × (symbols' ≡ symbols) × (count' ≡ count))
  -- balanced_weights
  pub weights : (rec counts counts' : List ℕ) (f : ℕ) → WeightsGive rec counts counts' f
      → Judged (record_numbers rec ++ weights_numbers (header_of rec) (length counts)) (Returns f) (counts' ≡ counts)
