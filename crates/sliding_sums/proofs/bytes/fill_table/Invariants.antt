-- `fill_table` meets its contract. The loop's invariant: the subsets below v have their places.
use Prim.Native.Nat.{◌*◌}
use Rattle.lists.proofs.Parts.{Valued}
use Rattle.sliding_sums.specs.Inner.Tables.{sliding_byte}
use Rattle.sliding_sums.proofs.bytes.fill_table.Given as goal

abbrev pub invariant-loop-v : goal.invariant-loop-v
invariant-loop-v l = Valued (sliding_byte l.row) 8192 l.initial.tab l.tab (l.v * 512)
