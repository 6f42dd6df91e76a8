-- `Planes::sums` meets its contract. Invariant: the sums below p are made.
use Prim.Native.Nat.{◌-◌}
use lib.ListN.{length}
use Rattle.lists.specs.Rows.{from}
use Rattle.lists.specs.Padded.{padded}
use Rattle.lists.proofs.Fill.{Fills}
use Rattle.repair.specs.Inner.Sums.{plane_sum, plane_sums}
use Rattle.repair.proofs.sums.Planes.sums.Given as goal

abbrev pub invariant-loop-p : goal.invariant-loop-p
invariant-loop-p l = Fills l.initial.sums l.sums l.p (from (λ p. padded 512 (plane_sum l.self.weights.now (length l.self.weights.now) l.self.size l.self.rows.now p)) l.p (8 - l.p)) (plane_sums l.self.weights.now (length l.self.weights.now) l.self.size l.self.rows.now)
