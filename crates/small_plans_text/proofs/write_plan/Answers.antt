-- `write_plan` meets its contract: p, and the fields after it.
use Rattle.text.specs.Text.{line}
use Rattle.text.proofs.Written.{writes_then}
use Rattle.small_plans_text.proofs.write_plan.Goals as goal

pub returns-clause-text : goal.returns-clause-text
unfolding line
returns-clause-text c = writes_then c.number.ensures.text c.fields.ensures.text
