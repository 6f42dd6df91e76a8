-- What Belongs promises: the numbers that turn it away, the answer, and the same over a record.
use Rattle.std.specs.Prelude.{Option}
use Rattle.generator.specs.Answers.{Answer}
use Rattle.std.specs.Prelude.{List, ◌≡◌, ℕ, ◌*◌, length}
use Rattle.lists.specs.Choice.{first_of, when}
use Rattle.layout.specs.Layout.{Arrangement, share_layout}
use Rattle.generator.specs.declared.Header.{Header}
use Rattle.generator.specs.Records.{width}
use Rattle.refusals.specs.Conditions.{lanes_bad, length_bad, symbols_bad}
use Rattle.refusals.specs.Promise.{OnRecord}
use Rattle.blocks.specs.Bytes.{wrong_lane}
use Rattle.blocks.specs.Answers.{membership_of}

-- Belongs reads n shares
unfoldable pub belongs_fault : Header → ℕ → List ℕ → ℕ
belongs_fault h l shares =
    first_of (when (lanes_bad l) 7)
    (first_of (when (length_bad (h.n * l * width h) (length shares)) 8)
    (when (symbols_bad h shares) 11))

-- Belongs: yes, or the smallest lane that is no word
pub record BelongsPromise (y : Arrangement) (l : ℕ) (shares : List ℕ) (answer : Answer (Option ℕ)) (h : Header) (f : ℕ) : Type 0 where
  pub answered : answer ≡ membership_of f l (wrong_lane y h l shares)

abbrev pub BelongsSaysIn : Arrangement → List ℕ → ℕ → List ℕ → Answer (Option ℕ) → Type 0
BelongsSaysIn y rec l shares answer = OnRecord rec (λ h. belongs_fault h l shares) (BelongsPromise y l shares answer)

abbrev pub BelongsSays : List ℕ → ℕ → List ℕ → Answer (Option ℕ) → Type 0
BelongsSays = BelongsSaysIn share_layout
