-- `Sums::add` keeps the sums below 65536.
use Rattle.std.proofs.Common.{arith}
use Rattle.kernel.proofs.Halves.{lane_sums_set}
use Rattle.kernel.proofs.wide.Sums.add.Goals as goal

pub invariant_of-self : goal.invariant_of-self
invariant_of-self g c =
    let h = c.args.self.now in
    record { rest_lanes = lane_sums_set _ _ _ h.rest_lanes (omega arith); upper_lanes = lane_sums_set _ _ _ h.upper_lanes (omega arith) }
