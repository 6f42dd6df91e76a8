-- `at_nodes` meets its contract. Invariant: the symbols at the first i nodes are written.
use lib.ListN.{length, get_or}
use Rattle.lists.proofs.Fill.{Filled}
use Rattle.decode_listed.proofs.nodes.at_nodes.Given as goal

abbrev pub invariant-loop-i : goal.invariant-loop-i
invariant-loop-i l = Filled 255 (length l.nodes) (λ i. get_or l.word (get_or l.nodes i 0) 0) l.i l.out
