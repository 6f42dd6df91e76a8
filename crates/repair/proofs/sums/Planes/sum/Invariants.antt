-- `Planes::sum` meets its contract.
use mathlib.Core.Path.{◌≡◌}
use Rattle.repair.specs.Inner.Sums.{plane_sum}
use Rattle.repair.proofs.sums.Planes.sum.Given as goal

abbrev pub invariant-loop-q : goal.invariant-loop-q
invariant-loop-q l = l.acc ≡ plane_sum l.self.weights.now l.q l.self.size l.self.rows.now l.bit.place
