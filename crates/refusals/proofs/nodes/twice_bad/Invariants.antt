-- `twice_bad` meets its contract. Invariants: the answer for the whole list is the answer for what is left of it; in the inner loop
-- the node at i is compared with what is left from j on; no repeat is found yet.
use Rattle.std.proofs.Common.{◌≡◌, false, not, ◌&&◌, ◌+◌, get_or, drop}
use Rattle.lists.specs.Numbers.{is_in, distinct}
use Rattle.refusals.proofs.nodes.twice_bad.Given as goal

abbrev pub invariant-places : goal.invariant-places
invariant-places l = (l.found ≡ false) × (distinct l.nodes ≡ distinct (drop l.i l.nodes))

abbrev pub invariant-loop-j : goal.invariant-loop-j
invariant-loop-j l = (l.found ≡ false) × (distinct l.nodes ≡ (not (is_in (get_or l.nodes l.i 0) (drop l.j l.nodes)) && distinct (drop (l.i + 1) l.nodes)))
