-- `read_wide` meets its contract.
use mathlib.Core.Path.{◌≡◌, ◌∙◌}
use native.Mathlib.Omega.{arith}
use Rattle.generator.specs.Records.{pair_at}
use Rattle.generator.proofs.Accepts.{usable_in}
use Rattle.generator.proofs.Answered.{exit}
use Rattle.records.proofs.Reading.{wide_body, wide_field, wide_judged}
use Rattle.records.proofs.read_wide.Goals as goal

pub returns-in_default : goal.returns-in_default
returns-in_default c = wide_body _ (λ e. omega arith)

pub returns-in_default-2 : goal.returns-in_default-2
returns-in_default-2 c = wide_body _ (λ e. omega arith)

pub returns-in_err-field : goal.returns-in_err-field
returns-in_err-field c =
    let p : c.from_be_bytes-p.result ≡ pair_at c.args.body.now 0 = omega (arith, c.from_be_bytes-p.ensures) in
    rw (exit _ c.from_residual.ensures.1, c.in_err-field.ensures.0) (wide_field _ (omega arith) (rw p at c.in_err-field.ensures.1))

pub judge-requires : goal.judge-requires
judge-requires c = rw c.in_ok-field.ensures.0 (usable_in 257 65521 _ (omega arith) c.in_ok-field.ensures.1)

pub returns : goal.returns
returns c =
    let p : c.from_be_bytes-p.result ≡ pair_at c.args.body.now 0 = omega (arith, c.from_be_bytes-p.ensures) in
    let root : c.from_be_bytes-root.result ≡ pair_at c.args.body.now 2 = omega (arith, c.from_be_bytes-root.ensures) in
    c.judge.ensures ∙ wide_judged _ (omega arith) (rw p at c.in_ok-field.ensures.1) _ (rw (c.in_ok-field.ensures.0, p, root))
