-- `write_logarithms` meets its contract. Invariant: the lines before that of a are written, and the others are to come.
use Rattle.text.proofs.Written.{writing_rows_done}
use Rattle.tables.specs.Tables.{number_line, logarithm_of}
use Rattle.tables.proofs.logarithms.write_logarithms.Goals as goal

pub returns : goal.returns
returns c = writing_rows_done (λ a. number_line (logarithm_of a)) 256 c.loop-a.a c.loop-a-test.false c.loop-a.invariant.text
