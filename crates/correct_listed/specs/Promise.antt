-- What turns the call away, and what it promises: the answer, and every lent byte and number afterwards.
use Rattle.generator.specs.Answers.{Answer, answer_of}
use Rattle.std.specs.Prelude.{◌≡◌, Bool, ◌||◌, List, ℕ, ◌*◌, eqb, ltb, length, sum}
use Rattle.lists.specs.Choice.{pick, first_of, when}
use Rattle.layout.specs.Layout.{Arrangement, share_layout}
use Rattle.generator.specs.declared.Header.{Header}
use Rattle.generator.specs.Records.{width}
use Rattle.refusals.specs.Conditions.{lanes_bad, length_bad}
use Rattle.refusals.specs.Faults.{list_fault}
use Rattle.refusals.specs.Promise.{OnRecord}
use Rattle.correct_listed.specs.Blocks.{near_message_bytes, wrong_numbers, far_listed_bad}

-- number 8: fewer than k nodes are listed, or more than n
unfoldable pub count_bad : Header → ℕ → Bool
count_bad h count = ltb count h.k || ltb h.n count

-- numbers 7 to 11 as Recover has them, but for the number of nodes; out and counts are the written lengths
unfoldable pub listed_fault : Header → ℕ → List ℕ → List ℕ → ℕ → ℕ → ℕ
listed_fault h l nodes shares out_len count =
    first_of (when (lanes_bad l) 7)
    (first_of (when (count_bad h (length nodes)) 8)
    (first_of (when (length_bad (length nodes * l * width h) (length shares)) 8)
    (first_of (when (length_bad (h.k * l * width h) out_len) 8)
    (first_of (when (length_bad (length nodes) count) 8)
    (list_fault h nodes shares)))))

-- then 14
unfoldable pub correct_listed_fault : Arrangement → Header → ℕ → List ℕ → List ℕ → ℕ → ℕ → ℕ
correct_listed_fault y h l nodes shares out_len count = first_of (listed_fault h l nodes shares out_len count) (when (far_listed_bad y h nodes l shares) 14)

-- the message nearest to each lane, for each place of the list in how many lanes it was wrong, and their sum; beside a number nothing is written
pub record CorrectListedPromise (y : Arrangement) (l : ℕ) (nodes shares out out' wrong wrong' : List ℕ) (answer : Answer ℕ) (h : Header) (f : ℕ) : Type 0 where
  pub answered : answer ≡ answer_of f (sum (wrong_numbers y h nodes l shares))
  pub written : out' ≡ pick (eqb f 0) (near_message_bytes y h nodes l shares) out
  pub counted : wrong' ≡ pick (eqb f 0) (wrong_numbers y h nodes l shares) wrong

abbrev pub CorrectListedSaysIn : Arrangement → List ℕ → ℕ → List ℕ → List ℕ → List ℕ → List ℕ → List ℕ → List ℕ → Answer ℕ → Type 0
CorrectListedSaysIn y rec l nodes shares out out' wrong wrong' answer =
    OnRecord rec (λ h. correct_listed_fault y h l nodes shares (length out) (length wrong)) (CorrectListedPromise y l nodes shares out out' wrong wrong' answer)

-- with shares as they stand in buffers
abbrev pub CorrectListedSays : List ℕ → ℕ → List ℕ → List ℕ → List ℕ → List ℕ → List ℕ → List ℕ → Answer ℕ → Type 0
CorrectListedSays = CorrectListedSaysIn share_layout
