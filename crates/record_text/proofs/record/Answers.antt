-- `record` meets its contract: the record's text, or the number.
use Rattle.text.specs.Text.{ascii}
use Rattle.text.proofs.Written.{written_page}
use Rattle.record_text.specs.Records.{record_for}
use Rattle.record_text.proofs.record.Goals as goal
use Rattle.record_text.proofs.record.Goals.{in-Ok, in-Err}

pub returns : goal.returns
unfolding record_for ascii
returns c =
    elim c.match-chosen.branch [
      | in-Ok w ↦ rw (c.written.ensures, w.writer-is, ← w.in-Ok.ensures.1) (written_page c.new-writer.ensures.begins (rw w.from.ensures at w.write_record.ensures))
      | in-Err w ↦ rw (c.written.ensures, w.writer-is, ← w.in-Err.ensures) (written_page c.new-writer.ensures.begins (rw w.from-in-Err.ensures at w.line.ensures.text))
    ]
