-- `values` meets its contract. Invariant: the product over the points before number i, a symbol, and the values below i are written.
use mathlib.Core.Path.{◌≡◌}
use Prim.Native.Nat.{◌<◌}
use lib.ListN.{length, take}
use Rattle.lists.proofs.Fill.{Filled}
use Rattle.field.specs.Fields.{size_of}
use Rattle.field.specs.Kinds.{modulus}
use Rattle.interpolation.specs.Inner.Lagrange.{product_at, basis_at}
use Rattle.interpolation.proofs.lagrange.Points.values.Given as goal

abbrev pub invariant-loop-i : goal.invariant-loop-i
invariant-loop-i l =
    (l.before < size_of (modulus l.self.field.field)) × (l.before ≡ product_at (modulus l.self.field.field) (take l.i l.self.points.now) l.z) × Filled 255 (length l.self.points.now) (λ j. basis_at (modulus l.self.field.field) l.self.points.now j l.z) l.i l.out
