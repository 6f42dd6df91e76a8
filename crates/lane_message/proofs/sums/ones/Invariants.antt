-- `ones` meets its contract.
use mathlib.Core.Path.{◌≡◌}
use Prim.Native.Nat.{◌<◌}
use Rattle.field.specs.Fields.{size_of}
use Rattle.field.specs.Kinds.{modulus}
use Rattle.lane_message.specs.Inner.Symbols.{ones_of}
use Rattle.lane_message.proofs.sums.ones.Given as goal

abbrev pub invariant-loop : goal.invariant-loop
invariant-loop l = (l.sum ≡ ones_of (modulus l.field.field) l.counter) × (l.sum < size_of (modulus l.field.field))
