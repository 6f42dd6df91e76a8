-- `write_roots` meets its contract. Invariant: the lines of the roots below `root` are written, and the others are to come.
use Rattle.text.proofs.Written.{writing_rows_done}
use Rattle.small_plans_text.specs.SmallPlans.{root_lines}
use Rattle.small_plans_text.proofs.Lines.{field_lines_lem}
use Rattle.small_plans_text.proofs.SmallPrime.write_roots.Goals as goal

pub returns-clause-text : goal.returns-clause-text
returns-clause-text c =
    let l = c.loop-root in
    let s = c.args.self in
    rw (field_lines_lem s.p s.most) (writing_rows_done (root_lines s.p) s.p l.root c.loop-root-test.false l.invariant.text)
