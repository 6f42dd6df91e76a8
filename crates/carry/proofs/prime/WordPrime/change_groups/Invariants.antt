-- `WordPrime::change_groups` meets its contract. The loop's invariant: the groups in front hold what was changed there, and the others are as they were.
use Prim.Native.Nat.{◌-◌}
use lib.ListN.{length}
use Rattle.carry.proofs.Changes.{Changing}
use Rattle.carry.proofs.prime.WordPrime.change_groups.Given as goal

abbrev pub invariant-loop-done : goal.invariant-loop-done
invariant-loop-done l = Changing l.self.p l.fn.at l.initial.symbols l.symbols l.bytes l.i l.place l.done

abbrev pub decreases-loop-done : goal.decreases-loop-done
decreases-loop-done l = length l.bytes - l.done
