-- `wide::put` meets its contract. The loop's invariant: the symbols from t on make of acc what all make of it.
use mathlib.Core.Path.{◌≡◌}
use Prim.Native.Nat.{◌+◌}
use lib.ListN.{drop}
use Rattle.row_sums.specs.Inner.WideSums.{pairs_put}
use Rattle.row_sums.proofs.wide.put.Given as goal

abbrev pub invariant-loop-t : goal.invariant-loop-t
invariant-loop-t l = pairs_put l.lanes (l.at + l.t) (drop l.t l.symbols) l.acc ≡ pairs_put l.lanes l.at l.symbols l.initial.acc
