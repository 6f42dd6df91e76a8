-- `write_count` meets its contract: a number, a field and a line feed, one after the other.
use Rattle.text.specs.Text.{fields, line}
use Rattle.text.proofs.Written.{writes_then}
use Rattle.weights_text.specs.Weights.{count_line}
use Rattle.weights_text.proofs.write_count.Goals as goal

pub returns-clause-text : goal.returns-clause-text
unfolding count_line line fields
returns-clause-text c = writes_then c.number.ensures.text (writes_then c.field.ensures.text c.byte.ensures)
