-- `list_message` meets its contract: the first k nodes are k different ones.
use mathlib.Core.Path.{◌≡◌}
use Rattle.lists.proofs.Padding.{take_padded}
use Rattle.generator.proofs.Shifts.{shifts_length}
use Rattle.listed_products.proofs.First.{nodes_byte, first_are}
use Rattle.listed_products.proofs.ListedBlock.list_message.Goals as goal

pub prepare-setup-requires : goal.prepare-setup-requires
prepare-setup-requires g c =
    let b = c.args.self in
    let s = b.code.sound in
    (first_are s b.listed, rw (c.shifts_of-shifts.ensures, c.dimensions.ensures.0, c.dimensions.ensures.1) (take_padded 255 _ _ (shifts_length b.code.header.n b.code.header.k s.some s.fits)))

pub invariant_of-inverse : goal.invariant_of-inverse
invariant_of-inverse g c =
    let b = c.args.self in
    record { different = rw c.new.ensures (first_are b.code.sound b.listed); prepared = rw c.new.ensures c.prepare-setup.ensures }

pub list_rows-requires : goal.list_rows-requires
list_rows-requires g c =
    let b = c.args.self in
    (c.requires.0, rw c.new.ensures c.requires.1, rw c.new.ensures b.listed.enough, nodes_byte b.code.sound b.listed, c.requires.2)

pub returns : goal.returns
returns g c =
    record { begun = rw c.new.ensures at c.list_rows.ensures; room = rw (c.list_rows.auto.lists, c.list_rows.auto.counts) c.requires.2 }
