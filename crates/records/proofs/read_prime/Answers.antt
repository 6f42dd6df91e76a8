-- `read_prime` meets its contract.
use mathlib.Core.Path.{◌∙◌}
use native.Mathlib.Omega.{arith}
use Rattle.generator.proofs.Accepts.{usable_in}
use Rattle.generator.proofs.Answered.{exit}
use Rattle.records.proofs.Reading.{prime_body, prime_field, prime_judged}
use Rattle.records.proofs.read_prime.Goals as goal

pub returns-in_default : goal.returns-in_default
returns-in_default c = prime_body _ (λ e. omega arith)

pub returns-in_default-2 : goal.returns-in_default-2
returns-in_default-2 c = prime_body _ (λ e. omega arith)

pub returns-in_err-field : goal.returns-in_err-field
returns-in_err-field c =
    rw (exit _ c.from_residual.ensures.1, c.in_err-field.ensures.0) (prime_field _ (omega arith) c.in_err-field.ensures.1)

pub judge-requires : goal.judge-requires
judge-requires c = rw c.in_ok-field.ensures.0 (usable_in 3 251 _ (omega arith) c.in_ok-field.ensures.1)

pub returns : goal.returns
returns c =
    c.judge.ensures ∙ prime_judged _ (omega arith) c.in_ok-field.ensures.1 _ (rw c.in_ok-field.ensures.0)
