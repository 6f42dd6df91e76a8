-- `lane` meets its contract: the bytes of the lane are its symbols.
use mathlib.Core.Path.{ap}
use Rattle.lists.specs.Padded.{padded}
use Rattle.correct_listed.proofs.Lanes.{size_short, part_long, part_lane}
use Rattle.correct_listed.proofs.lane.Marked.lane.Goals as goal

pub read_symbols-requires : goal.read_symbols-requires
read_symbols-requires c =
    let m = c.args.self in
    rw (c.width_of-w.ensures, part_long m.rows.code.sound m.listed m.symbols c.args.t c.requires) (size_short m.rows.code.sound m.listed m.symbols)

pub returns : goal.returns
returns c =
    let m = c.args.self in
    rw (c.read_symbols.ensures, c.width_of-w.ensures) (ap (padded 255) (part_lane m.rows.code.sound m.listed m.symbols c.args.t c.requires))
