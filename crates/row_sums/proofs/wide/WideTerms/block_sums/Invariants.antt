-- `block_sums` meets its contract. The loop's invariant: the sums over the rows below i are held.
use lib.ListN.{length}
use Rattle.row_sums.proofs.WideSums.{Held}
use Rattle.row_sums.proofs.wide.WideTerms.block_sums.Given as goal

abbrev pub invariant-loop-i : goal.invariant-loop-i
invariant-loop-i l = let t = l.terms in Held (length t.weights.now) t.lanes t.weights.now t.rows.now l.at l.i l.sums
