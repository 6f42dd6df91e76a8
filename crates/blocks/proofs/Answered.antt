-- What the answer of Belongs says of the number that turned the call away, and of the lanes.
use Rattle.std.specs.Prelude.{Some, None, Ok}
use mathlib.Core.Path.{◌≡◌, refl}
use Prim.Native.Nat.{ℕ, zero, suc}
use borrow.Author.Tests.{eqb-true, eqb-false}
use lib.Dec.{eqb}
use Rattle.lists.proofs.Cases.{by_test, never}
use Rattle.blocks.specs.Answers.{membership_of}
use Rattle.generator.specs.Answers.{answer_of}

-- a membership that is yes, or names a lane
pub yes_means : (f l wrong : ℕ) → (Ok None) ≡ membership_of f l wrong → (f ≡ 0) × (wrong ≡ l)
unfolding answer_of
yes_means zero l wrong e = (refl, by_test (eqb wrong l) (λ q. eqb-true wrong l q) (λ q. let w : (Ok None) ≡ Ok (Some wrong) = rw q at e in never cc))
yes_means (suc f) l wrong e = never cc

pub no_means : (f l wrong t : ℕ) → Ok (Some t) ≡ membership_of f l wrong → (f ≡ 0) × (wrong ≡ t) × (wrong ≡ l → ⊥)
unfolding answer_of
no_means zero l wrong t e =
    by_test (eqb wrong l)
    (λ q. let w : Ok (Some t) ≡ (Ok None) = rw q at e in never cc)
    (λ q. let w : Ok (Some t) ≡ Ok (Some wrong) = rw q at e in (refl, cc, eqb-false wrong l q))
no_means (suc f) l wrong t e = never cc
