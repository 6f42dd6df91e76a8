-- `bytes_line` meets its contract: the bytes, and the fields after it.
use Rattle.text.specs.Text.{line}
use Rattle.text.proofs.Written.{writes_then}
use Rattle.text.proofs.Writer.bytes_line.Goals as goal

pub returns-clause-text : goal.returns-clause-text
unfolding line
returns-clause-text g c = writes_then c.bytes.ensures c.fields.ensures.text
