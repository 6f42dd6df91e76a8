-- What the functions that set a block right, and that give the message of listed shares of which some are wrong, promise.
use Rattle.std.specs.Prelude.{◌≡◌, List, ℕ, eqb, length, sum}
use Rattle.lists.specs.Choice.{pick}
use Rattle.lists.specs.Counting.{differ}
use Rattle.layout.specs.Layout.{share_layout}
use Rattle.layout.specs.Width.{symbols_of}
use Rattle.generator.specs.Records.{header_of, width}
use Rattle.generator.specs.Answers.{answer_of}
use Rattle.refusals.specs.Faults.{fault_of}
use Rattle.correct.specs.Promise.{correct_fault, CorrectSays}
use Rattle.correct_listed.specs.Promise.{correct_listed_fault, CorrectListedSays}

-- `balanced_correct`: the number, what the call says of the shares, and how many of their symbols differ afterwards
pub record CorrectGives (rec : List ℕ) (l : ℕ) (shares : List ℕ) (altered : ℕ) (shares' : List ℕ) (altered' f : ℕ) : Type 0 where
  pub number : f ≡ fault_of rec (λ h. correct_fault share_layout h l shares)
  pub says : CorrectSays rec l shares shares' (answer_of f altered')
  pub altered_is : altered' ≡ pick (eqb f 0) (let w = width (header_of rec) in differ (symbols_of w shares) (symbols_of w shares')) altered

-- `balanced_correct_listed`: the number, what the call says of the message and of the counts, and the sum of these
pub record CorrectListedGives (rec : List ℕ) (l : ℕ) (nodes shares out wrong : List ℕ) (altered : ℕ) (out' wrong' : List ℕ) (altered' f : ℕ) : Type 0 where
  pub number : f ≡ fault_of rec (λ h. correct_listed_fault share_layout h l nodes shares (length out) (length wrong))
  pub says : CorrectListedSays rec l nodes shares out out' wrong wrong' (answer_of f altered')
  pub altered_is : altered' ≡ pick (eqb f 0) (sum wrong') altered
