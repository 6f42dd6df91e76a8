-- `small_plans` meets its contract.
use Rattle.text.proofs.Written.{written_page}
use Rattle.small_plans_text.proofs.small_plans.Goals as goal

pub returns : goal.returns
returns c = rw c.written.ensures (written_page c.new-writer.ensures.begins c.write_plans.ensures)
