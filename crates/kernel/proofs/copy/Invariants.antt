-- `copy` meets its contract. The loop's invariant: the lanes below t are those of the row.
use lib.ListN.{length, get_or}
use Rattle.lists.proofs.Parts.{Valued}
use Rattle.kernel.proofs.copy.Given as goal

abbrev pub invariant-loop-t : goal.invariant-loop-t
invariant-loop-t l = Valued (λ i. get_or l.row i 0) (length l.initial.out) l.initial.out l.out l.t
