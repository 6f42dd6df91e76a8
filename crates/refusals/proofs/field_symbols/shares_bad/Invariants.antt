-- `shares_bad` meets its contract. Invariant: the answer for the buffer is the answer for the lanes from `lane` on.
use Prim.Native.Nat.{◌*◌}
use mathlib.Core.Path.{◌≡◌}
use lib.ListN.{drop}
use Rattle.refusals.specs.Conditions.{symbols_bad}
use Rattle.refusals.proofs.field_symbols.shares_bad.Given as goal

abbrev pub invariant-loop-lane : goal.invariant-loop-lane
invariant-loop-lane l = symbols_bad l.h l.shares ≡ symbols_bad l.h (drop (l.lane * l.size) l.shares)
