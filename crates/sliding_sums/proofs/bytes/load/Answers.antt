-- `load` meets its contract: the row as bytes has zeros after it.
use mathlib.Core.Path.{refl, ap, ◌∙◌}
use Rattle.lists.specs.Padded.{zeros}
use Rattle.sliding_sums.specs.Inner.Tables.{sliding_table}
use Rattle.sliding_sums.proofs.Right.{row_in_front}
use Rattle.sliding_sums.proofs.bytes.load.Goals as goal

pub returns : goal.returns
unfolding zeros
returns c = c.fill_table.ensures ∙ ap sliding_table (row_in_front _ _ _ c.fill_bytes.ensures refl)
