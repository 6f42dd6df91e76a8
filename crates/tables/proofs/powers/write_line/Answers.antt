-- `write_line` meets its contract: a number and a line feed, one after the other.
use Rattle.text.proofs.Written.{writes_then}
use Rattle.tables.specs.Tables.{number_line}
use Rattle.tables.proofs.powers.write_line.Goals as goal

pub returns-clause-text : goal.returns-clause-text
unfolding number_line
returns-clause-text c = writes_then c.number.ensures.text c.byte.ensures
