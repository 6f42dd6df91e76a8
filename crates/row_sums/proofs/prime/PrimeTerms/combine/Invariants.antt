-- `prime::combine` meets its contract. The loop's invariant: acc holds the sums over the rows below i.
use lib.ListN.{length}
use Rattle.row_sums.proofs.Combined.{Summed}
use Rattle.row_sums.proofs.prime.PrimeTerms.combine.Given as goal

abbrev pub invariant-loop-i : goal.invariant-loop-i
invariant-loop-i l = Summed l.fn.self.p (length l.terms.weights.now) l.terms.lanes l.terms.weights.now l.terms.rows.now l.i l.acc
