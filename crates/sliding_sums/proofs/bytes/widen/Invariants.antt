-- `widen` meets its contract. The loop's invariant: the symbols below i are copied.
use lib.ListN.{length, get_or}
use Rattle.lists.proofs.Parts.{Valued}
use Rattle.sliding_sums.proofs.bytes.widen.Given as goal

abbrev pub invariant-loop-i : goal.invariant-loop-i
invariant-loop-i l = Valued (λ t. get_or l.part t 0) (length l.initial.out) l.initial.out l.out l.i
