-- `bytes_of` meets its contract: the byte of one mark more.
use Rattle.std.specs.Prelude.{◌≡◌, Bool, true, false}
use Rattle.std.proofs.Common.{arith}
use mathlib.Core.Path.{refl, ◌∙◌}
use mir.Val.{bool_byte}
use Rattle.lists.specs.Choice.{pick}
use Rattle.lists.proofs.Rows.{from_next, from_end}
use Rattle.lists.proofs.Fill.{fills_start, fills_put, fills_done}
use Rattle.roster_bytes.specs.Bytes.{mark_bytes, roster_bytes}
use Rattle.roster_bytes.proofs.Reading.{length_marks}
use Rattle.roster_bytes.proofs.bytes.bytes_of.Goals as goal

-- the byte of a mark
mark_byte : (here : Bool) → bool_byte here ≡ pick here 1 0
mark_byte true = refl
mark_byte false = refl

pub loop-j-init : goal.loop-j-init
unfolding mark_bytes
loop-j-init c = fills_start _ _

pub loop-j-preserved : goal.loop-j-preserved
loop-j-preserved c =
    let l = c.loop-j in
    rw (c.from.ensures, mark_byte) (fills_put (rw (from_next _ 255 l.j (omega arith)) at l.invariant) (omega arith))

pub returns : goal.returns
unfolding roster_bytes
returns c =
    let l = c.loop-j in
    fills_done (rw (from_end _ 255 l.j (omega arith)) at l.invariant) ∙ rw (length_marks c.args.roster.now.marks) refl
