-- `weighted_sum` meets its contract. Invariant: the sum has the terms from i on, and is a symbol.
use mathlib.Core.Path.{◌≡◌}
use Prim.Native.Nat.{◌<◌}
use lib.ListN.{drop}
use Rattle.field.specs.Fields.{size_of}
use Rattle.field.specs.Kinds.{modulus}
use Rattle.field.specs.Inner.Sums.{dot}
use Rattle.interpolation.proofs.sums.weighted_sum.Given as goal

abbrev pub invariant-loop-i : goal.invariant-loop-i
invariant-loop-i l = (l.sum < size_of (modulus l.field.field)) × (l.sum ≡ dot (modulus l.field.field) (drop l.i l.symbols) (drop l.i l.weights))
