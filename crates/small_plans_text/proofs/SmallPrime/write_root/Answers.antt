-- `write_root` meets its contract. Invariant: the lines before k are written, and the others are to come.
use mathlib.Core.Path.{sym}
use Prim.Native.Nat.{◌+◌}
use native.Mathlib.Omega.{arith}
use Rattle.text.proofs.Written.{writing_row, writing_rows_done}
use Rattle.small_plans_text.proofs.Lines.{line_with, root_lines_lem}
use Rattle.small_plans_text.proofs.SmallPrime.write_root.Goals as goal

pub returns-else-n-lt2-2-clause-text : goal.returns-else-n-lt2-2-clause-text
returns-else-n-lt2-2-clause-text c =
    let l = c.loop-k in
    let s = c.args.self in
    let n = c.order-n.result in
    let line = line_with s.p c.args.root n in
    rw (root_lines_lem s.p c.args.root n s.least s.most s.prime c.requires.below (sym c.order-n.ensures.order) c.if-n-lt2.false c.order-n.ensures.most)
    (writing_rows_done line (n + 1) (l.k + 1) (omega arith) (writing_row line (n + 1) l.k (omega arith) l.invariant.text c.write_plan.ensures.text))
