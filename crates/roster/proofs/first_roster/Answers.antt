-- `first_roster` meets its contract: one mark more.
use Rattle.std.proofs.Common.{arith}
use mathlib.Core.Path.{refl}
use Rattle.lists.proofs.Rows.{from_next, from_end}
use Rattle.lists.proofs.Fill.{fills_start, fills_put, fills_all}
use Rattle.roster.specs.Rosters.{first_roster, first_marks}
use Rattle.roster.proofs.first_roster.Goals as goal

pub loop-j-init : goal.loop-j-init
unfolding first_marks
loop-j-init c = fills_start _ _

pub loop-j-preserved : goal.loop-j-preserved
loop-j-preserved c =
    let l = c.loop-j in rw c.from.ensures (fills_put (rw (from_next _ 255 l.j (omega arith)) at l.invariant) (omega arith))

pub returns : goal.returns
unfolding first_roster
returns c =
    let l = c.loop-j in
    rw (fills_all (rw (from_end _ 255 l.j (omega arith)) at l.invariant) (omega arith)) refl
