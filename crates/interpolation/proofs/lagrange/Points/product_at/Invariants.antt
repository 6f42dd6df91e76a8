-- `product_at` meets its contract. Invariant: of each of the four parts the product over its points from number i on, a symbol.
use mathlib.Core.Path.{◌≡◌}
use Prim.Native.Nat.{◌+◌, ◌-◌, ◌*◌, ◌<◌}
use Rattle.field.specs.Fields.{size_of}
use Rattle.field.specs.Kinds.{modulus}
use Rattle.interpolation.proofs.Stretches.{stretch, tail}
use Rattle.interpolation.proofs.lagrange.Points.product_at.Given as goal

abbrev pub invariant-loop-i : goal.invariant-loop-i
invariant-loop-i l =
    let p = modulus l.self.field.field in
    let xs = l.self.points.now in
    let left = l.size - l.i in
    ((l.first < size_of p) × (l.first ≡ stretch p xs l.z l.i left))
    × ((l.second < size_of p) × (l.second ≡ stretch p xs l.z (l.size + l.i) left))
    × ((l.third < size_of p) × (l.third ≡ stretch p xs l.z (2 * l.size + l.i) left))
    × (l.last < size_of p)
    × (l.last ≡ tail p xs l.z (3 * l.size + l.i))
