-- `write_counts` meets its contract. Invariant: the lines before w are written, and the others are to come.
use lib.ListN.{length}
use Rattle.text.proofs.Written.{writing_rows_done}
use Rattle.weights_text.proofs.write_counts.Invariants.{line_at}
use Rattle.weights_text.proofs.write_counts.Goals as goal

pub returns : goal.returns
returns c =
    let counts = c.args.counts.now in
    writing_rows_done (line_at counts) (length counts) c.loop-w.w c.loop-w-test.false c.loop-w.invariant.text
