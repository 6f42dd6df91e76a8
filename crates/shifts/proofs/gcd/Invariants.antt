-- `gcd` meets its contract. Invariant: so far as Euclid's algorithm has come, with fuel, the answer is still that of x and y.
use Prim.Native.Nat.{ℕ, ◌<◌}
use mathlib.Core.Path.{◌≡◌}
use Rattle.generator.specs.Shifts.{gcd, gcd_from}
use Rattle.shifts.proofs.gcd.Given as goal

abbrev pub invariant-loop-b : goal.invariant-loop-b
invariant-loop-b l = (f : ℕ) × (l.b < f) × (gcd_from f l.a l.b ≡ gcd l.x l.y)

abbrev pub decreases-loop-b : goal.decreases-loop-b
decreases-loop-b l = l.b
