-- `comparison` meets its contract: the lines of the code that was read, or the number.
use Rattle.generator.proofs.Comparison.{compared}
use Rattle.repair_bound.proofs.Bound.{repair_bound}
use Rattle.repair_bound.proofs.Prices.{trace_price}
use Rattle.text.specs.Text.{ascii}
use Rattle.text.proofs.Written.{written_page}
use Rattle.compare_text.specs.Comparison.{comparison_for}
use Rattle.compare_text.proofs.comparison.Goals as goal
use Rattle.compare_text.proofs.comparison.Goals.{in-Ok, in-Err}

pub returns-clause-text : goal.returns-clause-text
unfolding comparison_for ascii
returns-clause-text c =
    elim c.match-read_record.branch [
      | in-Ok w ↦ rw (c.written.ensures, w.writer-is, ← w.in-Ok.ensures) (written_page c.new-writer.ensures.begins w.write_comparison.ensures)
      | in-Err w ↦ rw (c.written.ensures, w.writer-is, ← w.in-Err.ensures) (written_page c.new-writer.ensures.begins (rw w.from.ensures at w.line.ensures.text))
    ]

pub returns-clause-figures : goal.returns-clause-figures
returns-clause-figures c = compared _

pub returns-clause-bits : goal.returns-clause-bits
returns-clause-bits c = record { least = repair_bound _; traces = trace_price _ }
