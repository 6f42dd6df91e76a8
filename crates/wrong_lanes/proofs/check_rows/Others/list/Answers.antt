-- `list` meets its contract: each check has its lists.
use mathlib.Core.Path.{◌≡◌, ◌∙◌}
use native.Mathlib.Omega.{arith}
use lib.ListN.{length, take}
use lib.Seq.{length-take-le}
use Rattle.lists.proofs.Padding.{take_padded}
use Rattle.field.proofs.KindLaws.{usable_field}
use Rattle.interpolation.proofs.Values.{length_scales}
use Rattle.wrong_lanes.specs.Inner.Checks.{check_row}
use Rattle.wrong_lanes.proofs.CheckRows.{row_taken, length_check_row, check_row_below}
use Rattle.wrong_lanes.proofs.check_rows.Others.list.Goals as goal

pub prepare_all-requires-clause-few : goal.prepare_all-requires-clause-few
prepare_all-requires-clause-few c = let o = c.args.self in (o.symbols.short, omega (arith, o.symbols.short))

pub prepare_all-requires-clause-called : goal.prepare_all-requires-clause-called
prepare_all-requires-clause-called c =
    let o = c.args.self in
    λ j low. (rw (c.scales-scales.ensures, c.first.ensures.0, c.first.ensures.1) (take_padded 255 _ _ (length_scales _ _ ∙ length-take-le o.k o.points.now o.enough)), omega (arith, low, o.enough))

pub prepare_all-requires-clause-below : goal.prepare_all-requires-clause-below
prepare_all-requires-clause-below c =
    let o = c.args.self in
    λ j r low is. rw (is, c.requires.0, row_taken _ o.k o.points.now j) (check_row_below _ (usable_field _ o.field.usable) o.k o.points.now o.symbols j)

pub returns : goal.returns
returns c =
    let o = c.args.self in
    rw c.requires.0 at (c.prepare_all.ensures (check_row _ o.k o.points.now) (length_check_row _ (usable_field _ o.field.usable) o.k o.points.now o.symbols) (λ j r low is. rw is (row_taken _ o.k o.points.now j)))
