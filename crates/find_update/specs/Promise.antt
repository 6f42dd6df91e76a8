-- What the call promises: the finding for two lanes, or the number that turns it away.
use Rattle.std.specs.Prelude.{Ok, Err}
use Rattle.generator.specs.Answers.{Answer, answer_of}
use Rattle.std.specs.Prelude.{◌≡◌, List, ℕ, ◌*◌, length}
use Rattle.lists.specs.Choice.{first_of, when}
use Rattle.layout.specs.Width.{symbols_of}
use Rattle.generator.specs.declared.Header.{Header}
use Rattle.generator.specs.Records.{record_of, width}
use Rattle.refusals.specs.Conditions.{length_bad, symbols_bad}
use Rattle.refusals.specs.Promise.{OnRecord}
use Rattle.find_update.specs.declared.Finding.{Finding}
use Rattle.refusals.specs.Accepted.{IsLane}
use Rattle.find_update.specs.Finding.{finding_of, Finds}

-- numbers 8 and 11: each lane has n symbols
unfoldable pub find_fault : Header → List ℕ → List ℕ → ℕ
find_fault h before after =
    first_of (when (length_bad (h.n * width h) (length before)) 8)
    (first_of (when (length_bad (h.n * width h) (length after)) 8)
    (first_of (when (symbols_bad h before) 11)
    (when (symbols_bad h after) 11)))

-- what holds of every two lanes of a record that was read
unfoldable pub Found : Answer Header → Type 0
Found (Ok h) = (us vs : List ℕ) → IsLane h us → IsLane h vs → Finds h us vs
Found (Err f) = Unit {0}

-- over a header and the number that turns the call away, 0 where none does
pub record FindPromise (before after : List ℕ) (answer : Answer Finding) (h : Header) (f : ℕ) : Type 0 where
  pub answered : answer ≡ answer_of f (finding_of h (symbols_of (width h) before) (symbols_of (width h) after))

-- what `find_update` promises over the record as it is read, and what the answer means
pub record FindSays (rec before after : List ℕ) (answer : Answer Finding) : Type 0 where
  pub found : OnRecord rec (λ h. find_fault h before after) (FindPromise before after answer)
  pub claims : Found (record_of rec)
