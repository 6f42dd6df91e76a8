-- `sum` meets its contract. The loop's invariant: the symbols below i whose weight has the digit are added.
use lib.ListN.{length, get_or}
use Rattle.row_sums.proofs.OneLane.{SummedBelow}
use Rattle.row_sums.proofs.gf256.Digit.sum.Given as goal

abbrev pub invariant-loop-i : goal.invariant-loop-i
invariant-loop-i l = SummedBelow l.self.place (length l.symbols) l.weights (λ j. get_or l.symbols j 0) l.sum l.i
