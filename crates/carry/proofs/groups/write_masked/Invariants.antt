-- `write_masked` meets its contract. The loop's invariant: the bytes of the words below i are written.
use Prim.Native.Nat.{◌*◌}
use lib.ListN.{drop}
use Rattle.lists.proofs.Fill.{Fills}
use Rattle.layout.specs.Width.{bytes_of}
use Rattle.carrying.specs.Masks.{masked}
use Rattle.carry.proofs.groups.write_masked.Given as goal

abbrev pub invariant-loop-i : goal.invariant-loop-i
invariant-loop-i l = Fills l.initial.out l.out (l.i * 2) (bytes_of 2 (drop l.i (masked l.c l.words))) (bytes_of 2 (masked l.c l.words))
