-- `scales` meets its contract. Invariant: the first i scales are written.
use lib.ListN.{length}
use Rattle.lists.proofs.Fill.{Filled}
use Rattle.field.specs.Kinds.{modulus}
use Rattle.interpolation.specs.Inner.Lagrange.{scale_at}
use Rattle.interpolation.proofs.lagrange.Points.scales.Given as goal

abbrev pub invariant-loop-i : goal.invariant-loop-i
invariant-loop-i l = Filled 255 (length l.self.points.now) (scale_at (modulus l.self.field.field) l.self.points.now) l.i l.out
