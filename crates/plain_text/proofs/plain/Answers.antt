-- `plain` meets its contract: the lines of the code that was read, or the number.
use Rattle.text.specs.Text.{ascii}
use Rattle.text.proofs.Written.{written_page}
use Rattle.plain_text.specs.Plain.{plain_for}
use Rattle.plain_text.proofs.plain.Goals as goal
use Rattle.plain_text.proofs.plain.Goals.{in-Ok, in-Err}

pub returns : goal.returns
unfolding plain_for ascii
returns c =
    elim c.match-read_record.branch [
      | in-Ok w ↦ rw (c.written.ensures, w.writer-is, ← w.in-Ok.ensures, ← w.new.ensures) (written_page c.new-writer.ensures.begins w.write.ensures)
      | in-Err w ↦ rw (c.written.ensures, w.writer-is, ← w.in-Err.ensures) (written_page c.new-writer.ensures.begins (rw w.from.ensures at w.line.ensures.text))
    ]
