-- `write_entries` meets its contract. Invariant: the entries before j are written; the others and the line feed are to come.
use Rattle.lists.proofs.Rows.{from_end}
use Rattle.plan.specs.Plans.{entry_in}
use Rattle.text.specs.Text.{fields}
use Rattle.text.proofs.Written.{writing_next, writing_done}
use Rattle.sheet_text.proofs.PlanSheet.write_entries.Goals as goal

pub returns-clause-text : goal.returns-clause-text
unfolding fields
returns-clause-text c =
    let p = c.args.self.now.plan in
    let l = c.loop-j in
    writing_done (writing_next (rw (from_end (entry_in p c.args.r) p.n l.j c.loop-j-test.false) at l.invariant.text) c.byte.ensures)
