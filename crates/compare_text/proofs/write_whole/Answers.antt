-- `write_whole` meets its contract: the words, and eight bits for each byte of k symbols.
use Rattle.text.specs.Text.{ascii}
use Rattle.text.proofs.Written.{writes_then}
use Rattle.generator.specs.Records.{width}
use Rattle.compare_text.specs.Comparison.{whole_part}
use Rattle.compare_text.proofs.write_whole.Goals as goal

pub returns-clause-text : goal.returns-clause-text
unfolding whole_part ascii width
returns-clause-text c = writes_then c.word.ensures (rw (c.width.ensures, c.from.ensures) at c.field.ensures.text)
