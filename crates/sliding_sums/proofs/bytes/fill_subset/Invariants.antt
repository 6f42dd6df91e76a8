-- `fill_subset` meets its contract. The loop's invariant: the places below t have their sum.
use lib.ListN.{length}
use Rattle.lists.proofs.Parts.{Valued}
use Rattle.sliding_sums.specs.Inner.Tables.{sliding_subset}
use Rattle.sliding_sums.proofs.bytes.fill_subset.Given as goal

abbrev pub invariant-loop-t : goal.invariant-loop-t
invariant-loop-t l = Valued (sliding_subset l.row l.v) (length l.initial.out) l.initial.out l.out l.t
