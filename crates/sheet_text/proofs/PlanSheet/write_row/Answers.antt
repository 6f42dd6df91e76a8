-- `write_row` meets its contract: a word, three fields and the entries, one after the other.
use Rattle.text.specs.Text.{ascii, fields, line}
use Rattle.text.proofs.Written.{writes_then}
use Rattle.sheet_text.specs.Sheet.{row_line}
use Rattle.sheet_text.proofs.PlanSheet.write_row.Goals as goal

pub returns-clause-text : goal.returns-clause-text
unfolding row_line line fields ascii
returns-clause-text c =
    let placed = rw c.from-row.ensures at (writes_then c.field-2.ensures.text (writes_then c.field-3.ensures.text c.write_entries.ensures.text)) in
    writes_then c.word.ensures (writes_then c.field.ensures.text placed)
