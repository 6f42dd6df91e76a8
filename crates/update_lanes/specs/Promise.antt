-- What Update of a run of lanes promises: the numbers that turn it away, the answer and every lent byte afterwards, and the same over a record.
use Rattle.generator.specs.Answers.{Answer, answer_of}
use Rattle.std.specs.Prelude.{◌≡◌, List, ℕ, ◌+◌, ◌*◌, length, eqb, ltb}
use Rattle.lists.specs.Choice.{first_of, when, pick}
use Rattle.layout.specs.Width.{symbols_of}
use Rattle.generator.specs.declared.Header.{Header}
use Rattle.generator.specs.Records.{width}
use Rattle.refusals.specs.Conditions.{lanes_bad, length_bad, number_bad, symbols_bad}
use Rattle.refusals.specs.Promise.{OnRecord}
use Rattle.update_lanes.specs.Runs.{run_length, first_number, run_bad, lane_fault, run_bytes, run_count}

-- it takes so many symbols old and new, whole ones, and reads these and the lanes of the run, which ends within the block: numbers 7 to 11 of what it is given
unfoldable pub run_input_fault : Header → ℕ → ℕ → ℕ → List ℕ → List ℕ → List ℕ → ℕ
run_input_fault h l r first old new shares =
    let long = run_length h old in
    first_of (when (lanes_bad l) 7)
    (first_of (when (length_bad (h.n * l * width h) (length shares)) 8)
    (first_of (when (length_bad (long * width h) (length old)) 8)
    (first_of (when (length_bad (long * width h) (length new)) 8)
    (first_of (when (number_bad h.k r) 9)
    (first_of (when (ltb l (first + long)) 9)
    (first_of (when (symbols_bad h old) 11)
    (first_of (when (symbols_bad h new) 11)
    (when (run_bad h l first long shares) 11))))))))

-- what it is given, then the lanes: the number of the first lane of the run that may not change
unfoldable pub run_fault : Header → ℕ → ℕ → ℕ → List ℕ → List ℕ → List ℕ → ℕ
run_fault h l r first old new shares =
    let w = width h in
    first_of (run_input_fault h l r first old new shares)
    (first_number (run_length h old) 0 (lane_fault h l r first (symbols_of w old) (symbols_of w shares)))

-- the row added to every lane of the run, and how many symbols differ afterwards
pub record RunPromise (l r first : ℕ) (old new shares shares' : List ℕ) (answer : Answer ℕ) (h : Header) (f : ℕ) : Type 0 where
  pub answered : answer ≡ answer_of f (run_count h l r first old new shares)
  pub written : shares' ≡ pick (eqb f 0) (run_bytes h l r first old new shares) shares

abbrev pub RunSays : List ℕ → ℕ → ℕ → ℕ → List ℕ → List ℕ → List ℕ → List ℕ → Answer ℕ → Type 0
RunSays rec l r first old new shares shares' answer = OnRecord rec (λ h. run_fault h l r first old new shares) (RunPromise l r first old new shares shares' answer)
