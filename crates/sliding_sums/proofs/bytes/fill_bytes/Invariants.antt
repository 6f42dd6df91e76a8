-- `fill_bytes` meets its contract. The loop's invariant: the symbols below i are copied.
use lib.ListN.{drop}
use Rattle.lists.proofs.Fill.{Fills}
use Rattle.sliding_sums.proofs.bytes.fill_bytes.Given as goal

abbrev pub invariant-loop-i : goal.invariant-loop-i
invariant-loop-i l = Fills l.initial.out l.out l.i (drop l.i l.row) l.row
