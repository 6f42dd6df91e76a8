-- `list_rows` meets its contract. The loop's invariant: the rows below i whose weight has the digit are listed.
use Prim.Native.Nat.{◌≤◌}
use lib.ListN.{length}
use Rattle.row_sums.proofs.Listing.{ListedBelow}
use Rattle.row_sums.proofs.gf256.Digit.list_rows.Given as goal

abbrev pub invariant-loop-i : goal.invariant-loop-i
invariant-loop-i l = (l.count ≤ l.i) × ListedBelow l.self.place (length l.weights) l.weights l.list l.count l.i
