-- `field` meets its contract: a space and the number, one after the other.
use Rattle.text.specs.Text.{field}
use Rattle.text.proofs.Written.{writes_then}
use Rattle.text.proofs.Writer.field.Goals as goal

pub returns-clause-text : goal.returns-clause-text
unfolding field
returns-clause-text g c = writes_then c.byte.ensures c.number.ensures.text
