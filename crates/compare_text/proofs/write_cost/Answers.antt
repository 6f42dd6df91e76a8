-- `write_cost` meets its contract: words, the writes and the reads, one after the other.
use Prim.Native.Nat.{ℕ}
use Rattle.std.proofs.lemmas.List.{map-id}
use Rattle.text.specs.Text.{ascii}
use Rattle.text.proofs.Written.{writes_then}
use Rattle.compare_text.specs.Comparison.{cost_line}
use Rattle.compare_text.proofs.write_cost.Goals as goal

pub returns-clause-text : goal.returns-clause-text
unfolding cost_line ascii
returns-clause-text c =
    writes_then c.word.ensures (writes_then c.field.ensures.text (rw (map-id {A = ℕ} c.args.reads.now) at c.line.ensures.text))
