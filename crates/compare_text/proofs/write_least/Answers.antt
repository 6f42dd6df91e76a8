-- `write_least` meets its contract: the word and the least bits over the field of 256 elements, and nothing over the others.
use native.Mathlib.Omega.{arith}
use borrow.Author.Tests.{ne_eqb}
use Rattle.field.specs.Kinds.{modulus}
use Rattle.field.proofs.KindLaws.{usable_prime}
use Rattle.field.proofs.Primes.{two≤prime}
use Rattle.text.specs.Text.{ascii}
use Rattle.text.proofs.Written.{writes_none, writes_then}
use Rattle.compare_text.specs.Comparison.{least_part}
use Rattle.compare_text.proofs.write_least.Goals as goal

pub returns-in-Binary-clause-text : goal.returns-in-Binary-clause-text
unfolding least_part modulus ascii
returns-in-Binary-clause-text c =
    rw c.in-Binary.is (writes_then c.word.ensures (rw (c.least_bits.ensures.is, c.from.ensures, c.from-in-Binary.ensures) at c.field.ensures.text))

pub returns-in_default-clause-text : goal.returns-in_default-clause-text
unfolding least_part modulus
returns-in_default-clause-text c =
    let p = c.in_default.field-0.p in
    let e = c.in_default.is in
    let u = usable_prime _ (rw e at c.args.code.sound.usable_field) in
    rw (e, ne_eqb p 0 (λ z. omega (arith, two≤prime p u.1))) (writes_none c.args.writer.now)
