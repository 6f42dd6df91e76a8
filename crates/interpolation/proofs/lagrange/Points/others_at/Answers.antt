-- `others_at` meets its contract: the products over the points before number i and after it.
use Rattle.interpolation.proofs.Points.{symbols_take}
use Rattle.interpolation.proofs.lagrange.Points.others_at.Goals as goal

pub invariant_of-before : goal.invariant_of-before
invariant_of-before c = record { symbols = symbols_take c.args.self.symbols c.args.i }
