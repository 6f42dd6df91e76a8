-- `write_plans` meets its contract. Invariant: the lines of the primes below p are written, and the others are to come.
use Rattle.text.proofs.Written.{writing_rows_done}
use Rattle.small_plans_text.specs.SmallPlans.{field_lines}
use Rattle.small_plans_text.proofs.Lines.{all_lines}
use Rattle.small_plans_text.proofs.write_plans.Goals as goal

pub returns : goal.returns
returns c = rw all_lines (writing_rows_done field_lines 32 c.loop-p.p c.loop-p-test.false c.loop-p.invariant.text)
