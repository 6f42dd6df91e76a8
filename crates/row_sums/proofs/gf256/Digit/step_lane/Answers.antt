-- `step_lane` meets its contract: the sum of the digit is added to x times the lane.
use mathlib.Core.Path.{◌∙◌}
use Rattle.kernel.proofs.Lanes.{length_lanewise}
use Rattle.row_sums.specs.Inner.Digits.{multiplied}
use Rattle.row_sums.proofs.OneLane.{lane_added}
use Rattle.row_sums.proofs.gf256.Digit.step_lane.Goals as goal

pub returns : goal.returns
unfolding multiplied
returns c =
    rw (c.sum.ensures, c.multiply_x.ensures)
    (lane_added c.args.symbols.now _ _ (length_lanewise _ c.args.acc.now ∙ c.requires.1))
