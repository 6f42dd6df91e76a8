-- `first` meets its contract: a part of points is points.
use Rattle.interpolation.proofs.Points.{symbols_take}
use Rattle.wrong_lanes.proofs.check_rows.Others.first.Goals as goal

pub invariant_of-result : goal.invariant_of-result
invariant_of-result c = record { symbols = symbols_take c.args.self.symbols c.args.self.k }
