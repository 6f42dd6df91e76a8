-- `write` meets its contract. Invariant: the lines of the nodes before j are written, and the others are to come.
use Rattle.text.specs.Text.{ascii}
use Rattle.text.proofs.Written.{writes_then, writing_rows_done}
use Rattle.plain_text.specs.Plain.{node_line, plain_for}
use Rattle.plain_text.proofs.PlainLayout.write.Goals as goal

pub returns : goal.returns
unfolding plain_for ascii
returns c =
    let h = c.args.self.now.code.header in
    let l = c.loop-j in
    writes_then c.line.ensures.text (writing_rows_done (node_line h) h.n l.j c.loop-j-test.false l.invariant.text)
