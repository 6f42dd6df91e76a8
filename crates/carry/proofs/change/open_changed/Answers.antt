-- `open_changed` meets its contract: all bytes of the group are read.
use mathlib.Core.Path.{ap, ◌∙◌}
use native.Mathlib.Omega.{arith}
use lib.ListN.{length}
use lib.Seq.{take_all}
use Rattle.layout.specs.Width.{symbols_of, bytes_of}
use Rattle.carrying.specs.Masks.{opened}
use Rattle.carrying.specs.Changing.{part_replaced}
use Rattle.carry.proofs.Changes.{opened_long}
use Rattle.carry.proofs.change.open_changed.Goals as goal

pub returns : goal.returns
returns c =
    let group = c.args.group.now in
    let all = bytes_of 2 (opened (symbols_of 2 group)) in
    let long = opened_long group c.requires.0 (omega (arith, c.requires)) in
    c.replace.ensures ∙ ap (part_replaced c.args.at c.args.part.now) (c.open_group.ensures ∙ take_all (length c.args.out.now) all (omega (arith, long, c.requires)))
