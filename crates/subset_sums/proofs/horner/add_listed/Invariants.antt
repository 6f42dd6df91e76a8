-- `add_listed` meets its contract. The loop's invariant: with the slices that are left the sum is the same.
use Rattle.std.proofs.Common.{◌≡◌, length, drop}
use Rattle.subset_sums.specs.Inner.Lists.{slices_added}
use Rattle.subset_sums.proofs.horner.add_listed.Given as goal

abbrev pub invariant-loop-start : goal.invariant-loop-start
invariant-loop-start l = record { long : length l.acc ≡ 64; whole : slices_added l.tab (drop l.start-index l.list) l.acc ≡ slices_added l.tab l.list l.initial.acc }
