-- `points` meets its contract. Invariant: the first i points are written.
use Prim.Native.Nat.{◌+◌}
use lib.ListN.{length, get_or}
use Rattle.lists.proofs.Fill.{Filled}
use Rattle.field.specs.Fields.{power}
use Rattle.field.specs.Kinds.{modulus}
use Rattle.interpolation.proofs.powers.Root.points.Given as goal

abbrev pub invariant-loop-i : goal.invariant-loop-i
invariant-loop-i l = Filled 255 (length l.places) (λ j. power (modulus l.self.field.field) l.self.value (get_or l.places j 0 + l.offset)) l.i l.out
