-- What the functions of the C interface promise: the returned number, and every lent byte and number afterwards.
use Rattle.std.specs.Prelude.{◌≡◌, Bool, ◌&&◌, not, List, [], ◌∷◌, ℕ, eqb, length}
use Rattle.lists.specs.Choice.{pick, when}
use Rattle.lists.specs.Counting.{differ}
use Rattle.layout.specs.Layout.{Arrangement, row_after_row, lane_after_lane, share_layout}
use Rattle.layout.specs.Width.{symbols_of}
use Rattle.generator.specs.declared.Header.{Header}
use Rattle.generator.specs.Records.{header_of, record_of, width}
use Rattle.generator.specs.Claims.{Promised}
use Rattle.plan.specs.declared.Plan.{Plan}
use Rattle.plan.specs.Plans.{plan_of}
use Rattle.blocks.specs.Bytes.{wrong_lane}
use Rattle.refusals.specs.Faults.{fault_of}
use Rattle.belongs.specs.Promise.{belongs_fault}
use Rattle.recover.specs.Promise.{recover_fault, rebuild_fault, RecoverSays, RebuildSays}
use Rattle.update.specs.Promise.{update_fault, UpdateSays}
use Rattle.encode.specs.Promise.{encode_fault, EncodeSays}
use Rattle.generator.specs.Answers.{answer_of, outcome_of}
use Rattle.rearrange.specs.Promise.{RearrangeSays, rearrange_fault}
use Rattle.weight_counts.specs.Weights.{weights_fault, WeightsSay}

-- number 8 of `balanced_plan`, from the lengths of its buffers
abbrev pub plan_room_bad : ℕ → ℕ → ℕ → ℕ → Bool
plan_room_bad numbers_len shifts_len firsts_len base_len = not (eqb numbers_len 5 && (eqb shifts_len 255 && (eqb firsts_len 255 && eqb base_len 255)))

unfoldable pub plan_room_fault : ℕ → ℕ → ℕ → ℕ → ℕ
plan_room_fault numbers_len shifts_len firsts_len base_len = when (plan_room_bad numbers_len shifts_len firsts_len base_len) 8

-- n, k, d, and k·d / n rounded down and up
unfoldable pub numbers_of : Plan → List ℕ
numbers_of plan = plan.n ∷ plan.k ∷ plan.d ∷ plan.low ∷ plan.high ∷ []

-- `balanced_plan`: the plan's parts, and what is claimed of every accepted record
pub record PlanGives (rec numbers shifts firsts base numbers' shifts' firsts' base' : List ℕ) (f : ℕ) : Type 0 where
  pub number : f ≡ fault_of rec (λ h. plan_room_fault (length numbers) (length shifts) (length firsts) (length base))
  pub numbers_are : numbers' ≡ pick (eqb f 0) (numbers_of (plan_of (header_of rec))) numbers
  pub shifts_are : shifts' ≡ pick (eqb f 0) (plan_of (header_of rec)).shifts shifts
  pub firsts_are : firsts' ≡ pick (eqb f 0) (plan_of (header_of rec)).firsts firsts
  pub base_is : base' ≡ pick (eqb f 0) (plan_of (header_of rec)).base base
  pub claims : Promised (record_of rec)

-- `balanced_encode`: the number, and what Encode says of the shares
pub record EncodeGives (rec : List ℕ) (l : ℕ) (message shares shares' : List ℕ) (f : ℕ) : Type 0 where
  pub number : f ≡ fault_of rec (λ h. encode_fault h l (length shares) message)
  pub says : EncodeSays rec l message shares shares' (outcome_of f)

-- `balanced_update`: the number, what Update says of the shares, and how many of their symbols differ afterwards
pub record UpdateGives (rec : List ℕ) (l r t old new : ℕ) (shares : List ℕ) (altered : ℕ) (shares' : List ℕ) (altered' f : ℕ) : Type 0 where
  pub number : f ≡ fault_of rec (λ h. update_fault share_layout h l r t old new shares)
  pub says : UpdateSays rec l r t old new shares shares' (answer_of f altered')
  pub altered_is : altered' ≡ pick (eqb f 0) (let w = width (header_of rec) in differ (symbols_of w shares) (symbols_of w shares')) altered

-- `balanced_recover`: the number, and what Recover says of the message
pub record RecoverGives (rec : List ℕ) (l : ℕ) (nodes shares message message' : List ℕ) (f : ℕ) : Type 0 where
  pub number : f ≡ fault_of rec (λ h. recover_fault h l nodes shares (length message))
  pub says : RecoverSays rec l nodes shares message message' (outcome_of f)

-- `balanced_rebuild`: the number, and what Rebuild says of the target's share
pub record RebuildGives (rec : List ℕ) (l : ℕ) (nodes shares : List ℕ) (target : ℕ) (share share' : List ℕ) (f : ℕ) : Type 0 where
  pub number : f ≡ fault_of rec (λ h. rebuild_fault h l nodes shares target (length share))
  pub says : RebuildSays rec l nodes shares target share share' (outcome_of f)

-- `balanced_belongs`: the smallest lane that is no word of the code, or the number of lanes where all are
pub record BelongsGives (rec : List ℕ) (l : ℕ) (shares : List ℕ) (first first' f : ℕ) : Type 0 where
  pub number : f ≡ fault_of rec (λ h. belongs_fault h l shares)
  pub first_is : first' ≡ pick (eqb f 0) (wrong_lane share_layout (header_of rec) l shares) first

-- the calls that rearrange shares: the number, and the source rearranged; the header says how many rows there are
pub record RearrangeGives (y z : Arrangement) (rows : Header → ℕ) (rec : List ℕ) (l : ℕ) (source out out' : List ℕ) (f : ℕ) : Type 0 where
  pub number : f ≡ fault_of rec (λ h. rearrange_fault h (rows h) l (length source) (length out))
  pub says : RearrangeSays y z rows rec l source out out' (outcome_of f)

-- `balanced_to_lanes` and `balanced_to_nodes`: the shares of all nodes
abbrev pub ToLanesGives : List ℕ → ℕ → List ℕ → List ℕ → List ℕ → ℕ → Type 0
ToLanesGives = RearrangeGives row_after_row lane_after_lane (λ h. h.n)

abbrev pub ToNodesGives : List ℕ → ℕ → List ℕ → List ℕ → List ℕ → ℕ → Type 0
ToNodesGives = RearrangeGives lane_after_lane row_after_row (λ h. h.n)

-- `balanced_listed_to_lanes` and `balanced_listed_to_nodes`: those of k listed nodes
abbrev pub ListedToLanesGives : List ℕ → ℕ → List ℕ → List ℕ → List ℕ → ℕ → Type 0
ListedToLanesGives = RearrangeGives row_after_row lane_after_lane (λ h. h.k)

abbrev pub ListedToNodesGives : List ℕ → ℕ → List ℕ → List ℕ → List ℕ → ℕ → Type 0
ListedToNodesGives = RearrangeGives lane_after_lane row_after_row (λ h. h.k)

-- `balanced_weights`: the number, and what the call says of the counts
pub record WeightsGive (rec counts counts' : List ℕ) (f : ℕ) : Type 0 where
  pub number : f ≡ fault_of rec (λ h. weights_fault h (length counts))
  pub says : WeightsSay rec counts counts' (outcome_of f)
