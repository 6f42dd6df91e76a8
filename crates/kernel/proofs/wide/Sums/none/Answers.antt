-- `Sums::none` meets its contract.
use Rattle.std.proofs.Common.{refl}
use Rattle.lists.specs.Padded.{zeros}
use Rattle.kernel.proofs.Halves.{lane_sums_zeros}
use Rattle.kernel.proofs.wide.Sums.none.Goals as goal

pub invariant_of-result : goal.invariant_of-result
unfolding zeros
invariant_of-result g c = record { rest_lanes = lane_sums_zeros _; upper_lanes = lane_sums_zeros _ }

pub returns : goal.returns
unfolding zeros
returns g c = (refl, refl)
