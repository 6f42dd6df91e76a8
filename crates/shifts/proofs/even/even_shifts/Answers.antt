-- `even_shifts` meets its contract: one round takes k / g places and skips (n − k) / g.
use mathlib.Core.Path.{◌∙◌}
use native.Mathlib.Omega.{arith}
use Rattle.generator.specs.Shifts.{even_shifts}
use Rattle.generator.proofs.Gcd.{gcd_pos}
use Rattle.generator.proofs.EvenShifts.{pos_around, around_within}
use Rattle.shifts.proofs.even.even_shifts.Goals as goal

pub nonzero_div-taken : goal.nonzero_div-taken
nonzero_div-taken c = let h = c.args.dimensions in rw c.gcd-g.ensures (gcd_pos h.k h.n (omega arith))

pub nonzero_div-skipped : goal.nonzero_div-skipped
nonzero_div-skipped c = let h = c.args.dimensions in rw c.gcd-g.ensures (gcd_pos h.k h.n (omega arith))

pub rounds-requires : goal.rounds-requires
rounds-requires c =
    let h = c.args.dimensions in
    let some = pos_around h.n h.k h.some h.fits in
    let within = around_within h.n h.k h.some h.fits in
    rw c.gcd-g.ensures (omega arith, omega arith)

pub returns : goal.returns
unfolding even_shifts
returns c = c.rounds.ensures ∙ rw c.gcd-g.ensures
