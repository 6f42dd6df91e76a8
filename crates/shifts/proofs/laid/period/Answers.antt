-- `period` meets its contract.
use mathlib.Core.Path.{refl}
use Rattle.generator.specs.Shifts.{period}
use Rattle.generator.proofs.Gcd.{gcd_pos}
use Rattle.generator.proofs.LaidShifts.{pos_period}
use Rattle.shifts.proofs.laid.period.Goals as goal

pub nonzero_div-result : goal.nonzero_div-result
nonzero_div-result c = rw c.gcd.ensures (gcd_pos _ _ c.requires.0)

pub returns : goal.returns
unfolding period
returns c = rw c.gcd.ensures (refl, pos_period _ _ c.requires.0 c.requires.1)
