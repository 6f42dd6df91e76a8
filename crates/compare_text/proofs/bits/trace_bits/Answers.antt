-- `trace_bits` meets its contract.
use native.Mathlib.Nat.{sub-zero}
use native.Mathlib.Omega.{arith}
use borrow.Author.Tests.{ne_eqb}
use Rattle.field.specs.Kinds.{modulus}
use Rattle.field.proofs.KindLaws.{usable_prime}
use Rattle.field.proofs.Primes.{two≤prime}
use Rattle.traces.specs.Repairs.{bits}
use Rattle.compare_text.proofs.bits.trace_bits.Goals as goal

pub returns-in-Prime : goal.returns-in-Prime
unfolding bits modulus
returns-in-Prime c =
    let p = c.in-Prime.field-0.p in
    let e = c.in-Prime.is in
    let u = usable_prime _ (rw e at c.args.code.sound.usable_field) in
    rw (e, ne_eqb p 0 (λ z. omega (arith, two≤prime p u.1)))

pub returns-in-Binary : goal.returns-in-Binary
unfolding bits modulus
returns-in-Binary c = rw (c.in-Binary.is, sub-zero, ← c.checks.ensures) c.bits_for.ensures
