-- `weights` meets its contract: the lines of the record, or the number.
use Rattle.text.specs.Text.{ascii}
use Rattle.text.proofs.Written.{writes_then, written_page}
use Rattle.weights_text.proofs.weights.Goals as goal
use Rattle.weights_text.proofs.weights.Goals.{in-Err, in_default}

pub returns : goal.returns
unfolding ascii
returns c =
    elim c.match-write_weights.branch [
      | in-Err w ↦ rw (c.written.ensures, w.writer-is, w.in-Err.ensures.1) (written_page c.new-writer.ensures.begins (writes_then w.in-Err.ensures.0 (rw w.from.ensures at w.line.ensures.text)))
      | in_default w ↦ rw (c.written.ensures, w.writer-is) (written_page c.new-writer.ensures.begins w.in_default.ensures)
    ]
