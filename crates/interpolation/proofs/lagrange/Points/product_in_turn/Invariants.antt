-- `product_in_turn` meets its contract. Invariant: the product over the points that are done, a symbol.
use mathlib.Core.Path.{◌≡◌}
use Prim.Native.Nat.{◌<◌}
use Rattle.field.specs.Fields.{size_of}
use Rattle.field.specs.Kinds.{modulus}
use Rattle.interpolation.specs.Inner.Lagrange.{product_at}
use Rattle.interpolation.proofs.FromEnd.{FromEnd}
use Rattle.interpolation.proofs.lagrange.Points.product_in_turn.Given as goal

abbrev pub invariant-loop-x : goal.invariant-loop-x
invariant-loop-x l =
    let p = modulus l.self.field.field in
    (l.product < size_of p) × FromEnd l.self.points.now l.x-iterator.iter.rest.now (λ xs. l.product ≡ product_at p xs l.z)
