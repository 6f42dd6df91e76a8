-- Demand 1: of each call, which number turns it away, that it alters nothing then, and that every other call is accepted.
use Rattle.std.specs.Prelude.{Option, Err}
use Rattle.generator.specs.Answers.{Answer}
use Rattle.std.specs.Prelude.{◌≡◌, List, ◌++◌, ℕ, length}
use Rattle.generator.specs.Records.{header_of}
use Rattle.belongs.specs.Promise.{BelongsSays}
use Rattle.recover.specs.Promise.{RecoverSays, RebuildSays}
use Rattle.update.specs.Promise.{UpdateSays}
use Rattle.update_lanes.specs.Promise.{RunSays}
use Rattle.encode.specs.Promise.{EncodeSays}
use Rattle.rearrange.specs.Promise.{ToLanesSays, ToNodesSays, ListedToLanesSays, ListedToNodesSays}
use Rattle.differences.specs.Promise.{DifferencesSays, AddSays}
use Rattle.correct.specs.Promise.{CorrectSays}
use Rattle.correct_listed.specs.Promise.{CorrectListedSays}
use Rattle.find_update.specs.declared.Finding.{Finding}
use Rattle.find_update.specs.Promise.{FindSays}
use Rattle.mends.specs.Promise.{MendsSay}
use Rattle.weight_counts.specs.Weights.{WeightsSay}
use Rattle.demands.specs.Judging.{Judged}
use Rattle.demands.specs.Numbers.{record_numbers, encode_numbers, update_numbers, run_numbers, recover_numbers, rebuild_numbers, belongs_numbers, correct_numbers, correct_listed_numbers, rearrange_numbers, differences_numbers, add_numbers, find_numbers, mends_numbers, weights_numbers}

pub record Refusals : Type 0 where
  -- Encode: no byte of the shares is written
  pub encode : (rec : List ℕ) (l : ℕ) (message out out' : List ℕ) (answer : Answer (Unit {0})) → EncodeSays rec l message out out' answer
      → Judged (record_numbers rec ++ encode_numbers (header_of rec) l message (length out)) (λ f. answer ≡ Err f) (out' ≡ out)
  -- Update: its lane is as it was, and so is every other
  pub update : (rec : List ℕ) (l r t old new : ℕ) (shares shares' : List ℕ) (answer : Answer ℕ) → UpdateSays rec l r t old new shares shares' answer
      → Judged (record_numbers rec ++ update_numbers (header_of rec) l r t old new shares) (λ f. answer ≡ Err f) (shares' ≡ shares)
  -- Update of a run of lanes: no lane of it has changed, and no other
  pub update_lanes : (rec : List ℕ) (l r first : ℕ) (old new shares shares' : List ℕ) (answer : Answer ℕ) → RunSays rec l r first old new shares shares' answer
      → Judged (record_numbers rec ++ run_numbers (header_of rec) l r first old new shares) (λ f. answer ≡ Err f) (shares' ≡ shares)
  -- Recover: no byte of the message is written
  pub recover : (rec : List ℕ) (l : ℕ) (nodes shares out out' : List ℕ) (answer : Answer (Unit {0})) → RecoverSays rec l nodes shares out out' answer
      → Judged (record_numbers rec ++ recover_numbers (header_of rec) l nodes shares (length out)) (λ f. answer ≡ Err f) (out' ≡ out)
  -- Rebuild: no byte of the share is written
  pub rebuild : (rec : List ℕ) (l : ℕ) (nodes shares : List ℕ) (target : ℕ) (out out' : List ℕ) (answer : Answer (Unit {0})) → RebuildSays rec l nodes shares target out out' answer
      → Judged (record_numbers rec ++ rebuild_numbers (header_of rec) l nodes shares target (length out)) (λ f. answer ≡ Err f) (out' ≡ out)
  -- Belongs only reads
  pub belongs : (rec : List ℕ) (l : ℕ) (shares : List ℕ) (answer : Answer (Option ℕ)) → BelongsSays rec l shares answer
      → Judged (record_numbers rec ++ belongs_numbers (header_of rec) l shares) (λ f. answer ≡ Err f) (Unit {0})
  -- setting right: no lane is touched
  pub correct : (rec : List ℕ) (l : ℕ) (shares shares' : List ℕ) (answer : Answer ℕ) → CorrectSays rec l shares shares' answer
      → Judged (record_numbers rec ++ correct_numbers (header_of rec) l shares) (λ f. answer ≡ Err f) (shares' ≡ shares)
  -- correct_listed: neither the message nor the counts are written
  pub correct_listed : (rec : List ℕ) (l : ℕ) (nodes shares out out' wrong wrong' : List ℕ) (answer : Answer ℕ) → CorrectListedSays rec l nodes shares out out' wrong wrong' answer
      → Judged (record_numbers rec ++ correct_listed_numbers (header_of rec) l nodes shares (length out) (length wrong)) (λ f. answer ≡ Err f) ((out' ≡ out) × (wrong' ≡ wrong))
  -- to_lanes and to_nodes, of all nodes and of k listed ones: no byte is moved
  pub into_lanes : (rec : List ℕ) (l : ℕ) (source out out' : List ℕ) (answer : Answer (Unit {0})) → ToLanesSays rec l source out out' answer
      → Judged (record_numbers rec ++ rearrange_numbers (header_of rec) (header_of rec).n l (length source) (length out)) (λ f. answer ≡ Err f) (out' ≡ out)
  pub into_nodes : (rec : List ℕ) (l : ℕ) (source out out' : List ℕ) (answer : Answer (Unit {0})) → ToNodesSays rec l source out out' answer
      → Judged (record_numbers rec ++ rearrange_numbers (header_of rec) (header_of rec).n l (length source) (length out)) (λ f. answer ≡ Err f) (out' ≡ out)
  pub listed_to_lanes : (rec : List ℕ) (l : ℕ) (source out out' : List ℕ) (answer : Answer (Unit {0})) → ListedToLanesSays rec l source out out' answer
      → Judged (record_numbers rec ++ rearrange_numbers (header_of rec) (header_of rec).k l (length source) (length out)) (λ f. answer ≡ Err f) (out' ≡ out)
  pub listed_to_nodes : (rec : List ℕ) (l : ℕ) (source out out' : List ℕ) (answer : Answer (Unit {0})) → ListedToNodesSays rec l source out out' answer
      → Judged (record_numbers rec ++ rearrange_numbers (header_of rec) (header_of rec).k l (length source) (length out)) (λ f. answer ≡ Err f) (out' ≡ out)
  -- differences: no byte is written
  pub differences : (rec : List ℕ) (l r : ℕ) (old new out out' : List ℕ) (answer : Answer (Unit {0})) → DifferencesSays rec l r old new out out' answer
      → Judged (record_numbers rec ++ differences_numbers (header_of rec) l r old new (length out)) (λ f. answer ≡ Err f) (out' ≡ out)
  -- add_share: the share is as it was
  pub add_share : (rec : List ℕ) (l : ℕ) (difference share share' : List ℕ) (answer : Answer (Unit {0})) → AddSays rec l difference share share' answer
      → Judged (record_numbers rec ++ add_numbers (header_of rec) l difference share) (λ f. answer ≡ Err f) (share' ≡ share)
  -- find_update only reads
  pub find : (rec before after : List ℕ) (answer : Answer Finding) → FindSays rec before after answer
      → Judged (record_numbers rec ++ find_numbers (header_of rec) before after) (λ f. answer ≡ Err f) (Unit {0})
  -- single_mends: both buffers are as they were
  pub mends : (rec lane nodes symbols nodes' symbols' : List ℕ) (answer : Answer ℕ) → MendsSay rec lane nodes symbols nodes' symbols' answer
      → Judged (record_numbers rec ++ mends_numbers (header_of rec) lane (length nodes) (length symbols)) (λ f. answer ≡ Err f) ((nodes' ≡ nodes) × (symbols' ≡ symbols))
  -- weight_counts: no count is written
  pub weights : (rec counts counts' : List ℕ) (answer : Answer (Unit {0})) → WeightsSay rec counts counts' answer
      → Judged (record_numbers rec ++ weights_numbers (header_of rec) (length counts)) (λ f. answer ≡ Err f) (counts' ≡ counts)
