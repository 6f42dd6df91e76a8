-- `write_traces` meets its contract: nothing, or the word and b bits of each other node.
use native.Mathlib.Omega.{arith}
use borrow.Author.Tests.{ne_eqb}
use Rattle.text.specs.Text.{ascii}
use Rattle.text.proofs.Written.{writes_none, writes_then}
use Rattle.traces.specs.Claims.{moved_by_traces}
use Rattle.compare_text.specs.Comparison.{traces_part}
use Rattle.compare_text.proofs.write_traces.Goals as goal

pub returns-in-Some-clause-text : goal.returns-in-Some-clause-text
unfolding traces_part moved_by_traces ascii
returns-in-Some-clause-text c =
    let (is, some, few) = c.in-Some.ensures in
    rw (← is, ne_eqb c.in-Some.b 0 (λ z. omega (arith, some))) (writes_then c.word.ensures (rw c.from.ensures at c.field.ensures.text))

pub returns-in_default-clause-text : goal.returns-in_default-clause-text
unfolding traces_part
returns-in_default-clause-text c = rw c.in_default.ensures (writes_none c.args.writer.now)
