-- `multiply` meets its contract: the kernel's sum of one row.
use mathlib.Core.Path.{◌∙◌}
use Rattle.differences.proofs.Tiles.{row_ready, row_times_lem}
use Rattle.differences.proofs.rows.Rows.multiply.Goals as goal

pub combine_symbols-requires : goal.combine_symbols-requires
combine_symbols-requires c = row_ready c.requires.0 c.args.weight c.requires.1 c.requires.2

pub returns : goal.returns
returns c =
    c.combine_symbols.ensures ∙ row_times_lem c.requires.0 c.args.weight c.requires.1
