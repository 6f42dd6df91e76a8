-- `inverse` of a prime field meets its contract. The loop's invariant: t·a is x modulo p.
use mathlib.Core.Path.{◌≡◌}
use Prim.Native.Nat.{◌<◌}
use Rattle.field.specs.Fields.{mul}
use Rattle.field.proofs.prime.PrimeField.inverse.Given as goal

abbrev pub invariant-loop-x : goal.invariant-loop-x
invariant-loop-x l = (0 < l.x) × (l.x < l.p) × (l.t < l.p) × (mul l.p l.t l.a ≡ l.x)

abbrev pub decreases-loop-x : goal.decreases-loop-x
decreases-loop-x l = l.x
