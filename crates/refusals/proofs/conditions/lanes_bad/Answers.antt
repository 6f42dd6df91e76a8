-- `lanes_bad` meets its contract.
use borrow.Author.Tests.{eq-eqb, ne_eqb}
use Rattle.refusals.specs.Conditions.{lanes_bad}
use Rattle.refusals.proofs.conditions.lanes_bad.Goals as goal

pub returns-then-lanes-eq0 : goal.returns-then-lanes-eq0
unfolding lanes_bad
returns-then-lanes-eq0 c = rw (eq-eqb _ 0 c.if-lanes-eq0.true)

pub returns-else-lanes-eq0 : goal.returns-else-lanes-eq0
unfolding lanes_bad
returns-else-lanes-eq0 c = rw (ne_eqb _ 0 c.if-lanes-eq0.false)
