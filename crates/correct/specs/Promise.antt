-- What turns the call away, and what it promises: the answer, and every lent byte afterwards.
use Rattle.generator.specs.Answers.{Answer, answer_of}
use Rattle.std.specs.Prelude.{◌≡◌, List, ℕ, eqb}
use Rattle.lists.specs.Choice.{pick, first_of, when}
use Rattle.layout.specs.Layout.{Arrangement, share_layout}
use Rattle.generator.specs.declared.Header.{Header}
use Rattle.belongs.specs.Promise.{belongs_fault}
use Rattle.refusals.specs.Promise.{OnRecord}
use Rattle.correct.specs.Blocks.{corrected_bytes, corrected_count, far_bad}

-- numbers 7, 8 and 11 as Belongs has them, then 14
unfoldable pub correct_fault : Arrangement → Header → ℕ → List ℕ → ℕ
correct_fault y h l shares = first_of (belongs_fault h l shares) (when (far_bad y h l shares) 14)

-- every lane as the word nearest to it, and how many symbols differ afterwards; beside a number nothing is written
pub record CorrectPromise (y : Arrangement) (l : ℕ) (shares shares' : List ℕ) (answer : Answer ℕ) (h : Header) (f : ℕ) : Type 0 where
  pub answered : answer ≡ answer_of f (corrected_count y h l shares)
  pub written : shares' ≡ pick (eqb f 0) (corrected_bytes y h l shares) shares

abbrev pub CorrectSaysIn : Arrangement → List ℕ → ℕ → List ℕ → List ℕ → Answer ℕ → Type 0
CorrectSaysIn y rec l shares shares' answer = OnRecord rec (λ h. correct_fault y h l shares) (CorrectPromise y l shares shares' answer)

-- with shares as they stand in buffers
abbrev pub CorrectSays : List ℕ → ℕ → List ℕ → List ℕ → Answer ℕ → Type 0
CorrectSays = CorrectSaysIn share_layout
