-- `Recurrence::first` meets its contract. Invariant: y is root^i after i turns, and the product has the factors below i.
use mathlib.Core.Path.{◌≡◌}
use Prim.Native.Nat.{◌<◌}
use Rattle.field.specs.Fields.{size_of, power}
use Rattle.field.specs.Kinds.{modulus}
use Rattle.generator.specs.declared.Header.{Header}
use Rattle.generator.specs.Generator.{base_from}
use Rattle.plan.proofs.base.Recurrence.first.Given as goal

abbrev pub invariant-loop : goal.invariant-loop
invariant-loop l =
    (l.product < size_of (modulus l.field.field))
    × (l.y < size_of (modulus l.field.field))
    × (l.y ≡ power (modulus l.field.field) l.root l.counter)
    × ((h : Header) → h.field ≡ l.field.field → h.root ≡ l.root → l.product ≡ base_from l.counter h l.scale)
