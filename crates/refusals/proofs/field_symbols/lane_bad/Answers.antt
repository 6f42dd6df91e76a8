-- `lane_bad` meets its contract: the lane is a part of the shares.
use mathlib.Core.Path.{◌∙◌}
use Rattle.refusals.proofs.Walks.{lane_bytes_lem}
use Rattle.refusals.proofs.field_symbols.lane_bad.Goals as goal
use Rattle.refusals.proofs.field_symbols.lane_bad.Goals.{After-width_of-w}

pub returns : goal.returns
returns c =
    c.symbols_bad.ensures ∙ rw c.width_of-w.ensures (lane_bytes_lem c.args.h c.args.lanes c.args.lane c.args.shares.now c.requires.2 c.requires.1)
