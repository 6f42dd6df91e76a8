-- `sheet` meets its contract: the sheet of the record's plan, or the number.
use Rattle.generator.specs.Records.{record_of}
use Rattle.text.specs.Text.{ascii}
use Rattle.text.proofs.Written.{written_page}
use Rattle.sheet_text.proofs.Sheets.{sheet_is, sheet_refused}
use Rattle.sheet_text.proofs.sheet.Goals as goal
use Rattle.sheet_text.proofs.sheet.Goals.{in-Ok, in-Err}

pub returns : goal.returns
unfolding ascii
returns c =
    let rec = c.args.rec.now in
    elim c.match-build_plan.branch [
      | in-Ok w ↦ rw (c.written.ensures, w.writer-is, ← sheet_is rec _ w.in-Ok.ensures.plan) (written_page c.new-writer.ensures.begins w.write.ensures)
      | in-Err w ↦ rw (c.written.ensures, w.writer-is, ← sheet_refused (record_of rec) _ w.in-Err.ensures.plan) (written_page c.new-writer.ensures.begins (rw w.from.ensures at w.line.ensures.text))
    ]
