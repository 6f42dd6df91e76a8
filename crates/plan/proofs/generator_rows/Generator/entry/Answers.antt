-- An entry of a plan's generator, as it is read.
use Rattle.std.proofs.Common.{◌∙◌}
use Rattle.plan.proofs.Plans.{shift_below, base_room, entry_read}
use Rattle.plan.proofs.generator_rows.Generator.entry.Goals as goal

pub entry_at-requires : goal.entry_at-requires
entry_at-requires c =
    let g = c.args.self.now in
    let p = g.planned in
    (p.sound.byte, rw p.shifts_are (shift_below _ p.sound _ c.requires.0), c.requires.1, rw p.base_is (base_room g.codec.code.header))

pub returns : goal.returns
returns c =
    let p = c.args.self.now.planned in
    c.entry_at.ensures ∙ rw (p.shifts_are, p.base_is) (entry_read _ p.sound _ _ c.requires.0 c.requires.1)
