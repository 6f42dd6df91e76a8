-- Rows of shares that are arranged as y says, rearranged as z says: what the calls promise. The rows are those of all n nodes, or of the k listed ones.
use Rattle.generator.specs.Answers.{Answer, outcome_of}
use Rattle.std.specs.Prelude.{◌≡◌, List, ℕ, ◌*◌, eqb, length}
use Rattle.lists.specs.Choice.{pick, first_of, when}
use Rattle.layout.specs.Layout.{Arrangement, row_after_row, lane_after_lane}
use Rattle.generator.specs.declared.Header.{Header}
use Rattle.generator.specs.Records.{width}
use Rattle.refusals.specs.Promise.{OnRecord}
use Rattle.refusals.specs.Conditions.{lanes_bad, length_bad}
use Rattle.blocks.specs.Bytes.{rearranged_bytes}

-- so many rows are read and written in another arrangement
unfoldable pub rearrange_fault : Header → ℕ → ℕ → ℕ → ℕ → ℕ
rearrange_fault h rows l source_len out_len =
    first_of (when (lanes_bad l) 7)
    (first_of (when (length_bad (rows * l * width h) source_len) 8)
    (when (length_bad (rows * l * width h) out_len) 8))

-- the rows of the source, rearranged; nothing is written beside a number
pub record RearrangePromise (y z : Arrangement) (rows l : ℕ) (source out out' : List ℕ) (answer : Answer (Unit {0})) (h : Header) (f : ℕ) : Type 0 where
  pub answered : answer ≡ outcome_of f
  pub written : out' ≡ pick (eqb f 0) (rearranged_bytes y z h rows l source) out

-- over the record as it is read, whose header says how many rows there are
abbrev pub RearrangeSays : Arrangement → Arrangement → (Header → ℕ) → List ℕ → ℕ → List ℕ → List ℕ → List ℕ → Answer (Unit {0}) → Type 0
RearrangeSays y z rows rec l source out out' answer =
    OnRecord rec (λ h. rearrange_fault h (rows h) l (length source) (length out)) (λ h. RearrangePromise y z (rows h) l source out out' answer h)

-- the shares of all nodes from node after node to lane after lane, and back
abbrev pub ToLanesSays : List ℕ → ℕ → List ℕ → List ℕ → List ℕ → Answer (Unit {0}) → Type 0
ToLanesSays = RearrangeSays row_after_row lane_after_lane (λ h. h.n)

abbrev pub ToNodesSays : List ℕ → ℕ → List ℕ → List ℕ → List ℕ → Answer (Unit {0}) → Type 0
ToNodesSays = RearrangeSays lane_after_lane row_after_row (λ h. h.n)

-- the shares of k listed nodes, likewise
abbrev pub ListedToLanesSays : List ℕ → ℕ → List ℕ → List ℕ → List ℕ → Answer (Unit {0}) → Type 0
ListedToLanesSays = RearrangeSays row_after_row lane_after_lane (λ h. h.k)

abbrev pub ListedToNodesSays : List ℕ → ℕ → List ℕ → List ℕ → List ℕ → Answer (Unit {0}) → Type 0
ListedToNodesSays = RearrangeSays lane_after_lane row_after_row (λ h. h.k)
