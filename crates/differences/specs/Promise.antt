-- What both calls promise: the numbers that turn them away, the answer and every lent byte afterwards, and the same over a record.
use Rattle.generator.specs.Answers.{Answer, outcome_of}
use Rattle.std.specs.Prelude.{◌≡◌, List, ℕ, ◌*◌, eqb, length}
use Rattle.lists.specs.Choice.{first_of, when, pick}
use Rattle.generator.specs.declared.Header.{Header}
use Rattle.generator.specs.Records.{width}
use Rattle.refusals.specs.Conditions.{lanes_bad, length_bad, number_bad, symbols_bad}
use Rattle.refusals.specs.Promise.{OnRecord}
use Rattle.differences.specs.Differences.{difference_bytes, added_bytes}

-- differences reads two rows of symbols and writes a row for each node
unfoldable pub differences_fault : Header → ℕ → ℕ → List ℕ → List ℕ → ℕ → ℕ
differences_fault h l r old new out_len =
    first_of (when (lanes_bad l) 7)
    (first_of (when (length_bad (l * width h) (length old)) 8)
    (first_of (when (length_bad (l * width h) (length new)) 8)
    (first_of (when (length_bad (h.n * l * width h) out_len) 8)
    (first_of (when (number_bad h.k r) 9)
    (first_of (when (symbols_bad h old) 11)
    (when (symbols_bad h new) 11))))))

-- add_share reads a row of symbols and adds it to another
unfoldable pub add_fault : Header → ℕ → List ℕ → List ℕ → ℕ
add_fault h l difference share =
    first_of (when (lanes_bad l) 7)
    (first_of (when (length_bad (l * width h) (length difference)) 8)
    (first_of (when (length_bad (l * width h) (length share)) 8)
    (first_of (when (symbols_bad h difference) 11)
    (when (symbols_bad h share) 11))))

-- differences: what each node adds, node after node; nothing is written beside a number
pub record DifferencesPromise (l r : ℕ) (old new out out' : List ℕ) (answer : Answer (Unit {0})) (h : Header) (f : ℕ) : Type 0 where
  pub answered : answer ≡ outcome_of f
  pub written : out' ≡ pick (eqb f 0) (difference_bytes h l r old new) out

-- add_share: the share with the difference added, or as it was
pub record AddPromise (l : ℕ) (difference share share' : List ℕ) (answer : Answer (Unit {0})) (h : Header) (f : ℕ) : Type 0 where
  pub answered : answer ≡ outcome_of f
  pub written : share' ≡ pick (eqb f 0) (added_bytes h l difference share) share

-- over the record as it is read
abbrev pub DifferencesSays : List ℕ → ℕ → ℕ → List ℕ → List ℕ → List ℕ → List ℕ → Answer (Unit {0}) → Type 0
DifferencesSays rec l r old new out out' answer = OnRecord rec (λ h. differences_fault h l r old new (length out)) (DifferencesPromise l r old new out out' answer)

abbrev pub AddSays : List ℕ → ℕ → List ℕ → List ℕ → List ℕ → Answer (Unit {0}) → Type 0
AddSays rec l difference share share' answer = OnRecord rec (λ h. add_fault h l difference share) (AddPromise l difference share share' answer)
