-- `base` meets its contract. Invariant: y is root^i, a symbol, and the product has the factors below i.
use mathlib.Core.Path.{◌≡◌}
use Prim.Native.Nat.{◌<◌}
use Rattle.lists.specs.Padded.{padded}
use Rattle.field.specs.Fields.{size_of, power}
use Rattle.field.specs.Kinds.{modulus}
use Rattle.interpolation.specs.Inner.Polynomials.{base_of}
use Rattle.interpolation.proofs.powers.Root.base.Given as goal

abbrev pub invariant-loop-i : goal.invariant-loop-i
invariant-loop-i l =
    (l.y < size_of (modulus l.self.field.field)) × (l.y ≡ power (modulus l.self.field.field) l.self.value l.i) × (l.out ≡ padded 256 (base_of (modulus l.self.field.field) l.self.value l.i))
