-- `write` meets its contract. Invariant: the rows before r are written, and the others are to come.
use Rattle.text.proofs.Written.{writes_then, writing_rows_done}
use Rattle.sheet_text.specs.Sheet.{row_line}
use Rattle.sheet_text.specs.Inner.Sheet.{sheet_of}
use Rattle.sheet_text.proofs.PlanSheet.write.Goals as goal

pub returns : goal.returns
unfolding sheet_of
returns c =
    let p = c.args.self.now.plan in
    let l = c.loop-r in
    writes_then c.write_numbers.ensures.text (writing_rows_done (row_line p) p.k l.r c.loop-r-test.false l.invariant.text)
