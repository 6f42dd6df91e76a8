-- What Update promises: the numbers that turn it away, the answer and every lent byte afterwards, and the same over a record.
use Rattle.generator.specs.Answers.{Answer, answer_of}
use Rattle.std.specs.Prelude.{List, ◌≡◌, ℕ, ◌*◌, length, eqb}
use Rattle.lists.specs.Choice.{first_of, when, pick}
use Rattle.layout.specs.Layout.{Arrangement, lane_of, share_layout}
use Rattle.layout.specs.Width.{symbols_of}
use Rattle.generator.specs.declared.Header.{Header}
use Rattle.generator.specs.Records.{width}
use Rattle.refusals.specs.Conditions.{lanes_bad, length_bad, number_bad, symbol_bad, lane_bad}
use Rattle.refusals.specs.Faults.{stale_fault}
use Rattle.refusals.specs.Promise.{OnRecord}
use Rattle.blocks.specs.Bytes.{updated_bytes, altered_count}

-- Update takes the number of a symbol and of a lane, and reads the two symbols and its lane of shares that are arranged as y says: numbers 7 to 11 of what it is given
unfoldable pub input_fault : Arrangement → Header → ℕ → ℕ → ℕ → ℕ → ℕ → List ℕ → ℕ
input_fault y h l r t old new shares =
    first_of (when (lanes_bad l) 7)
    (first_of (when (length_bad (h.n * l * width h) (length shares)) 8)
    (first_of (when (number_bad h.k r) 9)
    (first_of (when (number_bad l t) 9)
    (first_of (when (symbol_bad h old) 11)
    (first_of (when (symbol_bad h new) 11)
    (when (lane_bad y h l t shares) 11))))))

-- Update: what it is given, then the lane
unfoldable pub update_fault : Arrangement → Header → ℕ → ℕ → ℕ → ℕ → ℕ → List ℕ → ℕ
update_fault y h l r t old new shares = first_of (input_fault y h l r t old new shares) (stale_fault h (lane_of y h.n l t (symbols_of (width h) shares)) r old)

-- Update: the row added to the lane, and how many symbols differ afterwards
pub record UpdatePromise (y : Arrangement) (l r t old new : ℕ) (shares shares' : List ℕ) (answer : Answer ℕ) (h : Header) (f : ℕ) : Type 0 where
  pub answered : answer ≡ answer_of f (altered_count y h l r t old new shares)
  pub written : shares' ≡ pick (eqb f 0) (updated_bytes y h l r t old new shares) shares

abbrev pub UpdateSaysIn : Arrangement → List ℕ → ℕ → ℕ → ℕ → ℕ → ℕ → List ℕ → List ℕ → Answer ℕ → Type 0
UpdateSaysIn y rec l r t old new shares shares' answer = OnRecord rec (λ h. update_fault y h l r t old new shares) (UpdatePromise y l r t old new shares shares' answer)

abbrev pub UpdateSays : List ℕ → ℕ → ℕ → ℕ → ℕ → ℕ → List ℕ → List ℕ → Answer ℕ → Type 0
UpdateSays = UpdateSaysIn share_layout
