-- `tables` meets its contract: the two tables, one after the other.
use Rattle.text.proofs.Written.{writes_then, written_page}
use Rattle.tables.proofs.tables_text.tables.Goals as goal

pub returns : goal.returns
returns c = rw c.written.ensures (written_page c.new-writer.ensures.begins (writes_then c.write.ensures.text c.write_logarithms.ensures))
