-- `open_group` meets its contract. The loop's invariant: the bytes below i are written.
use Prim.Native.Nat.{◌+◌, ◌%◌}
use lib.Bits.{bit_xor}
use lib.ListN.{length, get_or}
use Rattle.lists.proofs.Parts.{Valued}
use Rattle.carry.proofs.groups.open_group.Given as goal

abbrev pub invariant-loop-i : goal.invariant-loop-i
invariant-loop-i l = Valued (λ i. bit_xor (get_or l.group (i + 2) 0) (get_or l.group (i % 2) 0)) (length l.initial.out) l.initial.out l.out l.i
