-- What the functions for a changed row promise: the returned number, and every lent byte and number afterwards.
use Rattle.std.specs.Prelude.{◌≡◌, List, ℕ, length, eqb}
use Rattle.lists.specs.Choice.{pick}
use Rattle.lists.specs.Counting.{differ}
use Rattle.layout.specs.Width.{symbols_of}
use Rattle.generator.specs.Records.{header_of, width}
use Rattle.refusals.specs.Faults.{fault_of}
use Rattle.generator.specs.Answers.{answer_of, outcome_of}
use Rattle.differences.specs.Promise.{differences_fault, add_fault, DifferencesSays, AddSays}
use Rattle.update_lanes.specs.Promise.{run_fault, RunSays}

-- `balanced_differences`: the number, and what each node adds
pub record DifferencesGives (rec : List ℕ) (l r : ℕ) (old new out out' : List ℕ) (f : ℕ) : Type 0 where
  pub number : f ≡ fault_of rec (λ h. differences_fault h l r old new (length out))
  pub says : DifferencesSays rec l r old new out out' (outcome_of f)

-- `balanced_add_share`: the number, and the share afterwards
pub record AddGives (rec : List ℕ) (l : ℕ) (difference share share' : List ℕ) (f : ℕ) : Type 0 where
  pub number : f ≡ fault_of rec (λ h. add_fault h l difference share)
  pub says : AddSays rec l difference share share' (outcome_of f)

-- `balanced_update_lanes`: the number, what the call says of the shares, and how many of their symbols differ afterwards
pub record UpdateLanesGives (rec : List ℕ) (l r first : ℕ) (old new shares : List ℕ) (altered : ℕ) (shares' : List ℕ) (altered' f : ℕ) : Type 0 where
  pub number : f ≡ fault_of rec (λ h. run_fault h l r first old new shares)
  pub says : RunSays rec l r first old new shares shares' (answer_of f altered')
  pub altered_is : altered' ≡ pick (eqb f 0) (let w = width (header_of rec) in differ (symbols_of w shares) (symbols_of w shares')) altered
