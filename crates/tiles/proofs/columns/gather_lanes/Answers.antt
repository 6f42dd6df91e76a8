-- `gather_lanes` meets its contract: the lanes are a part of the buffer.
use Rattle.std.proofs.Common.{◌∙◌}
use Rattle.layout.proofs.Lawful.{by_row}
use Rattle.layout.proofs.Runs.{rearranged_part}
use Rattle.tiles.proofs.columns.gather_lanes.Goals as goal

pub returns : goal.returns
returns c =
    let a = c.args in
    let part = c.part.ensures in
    rw (part.rows, part.count, part.bytes) at c.gather.ensures ∙ rearranged_part a.rows a.lanes a.source.now c.requires.0 by_row a.first a.count
