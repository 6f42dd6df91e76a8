-- `write` meets its contract. Invariant: the lines before the power's are written, and the others are to come.
use Rattle.text.proofs.Written.{writing_rows_done}
use Rattle.tables.proofs.TwoPowers.{power_line}
use Rattle.tables.proofs.powers.Powers.write.Goals as goal

pub returns-clause-text : goal.returns-clause-text
returns-clause-text c = writing_rows_done power_line 255 c.loop-power.power-index c.loop-power-test.false c.loop-power.invariant.text
