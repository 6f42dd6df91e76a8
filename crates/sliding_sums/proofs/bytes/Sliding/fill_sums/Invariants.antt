-- `fill_sums` meets its contract. The loop's invariant: the sums below `at` are there, and `at` is a multiple of 64.
use mathlib.Core.Path.{◌≡◌}
use Prim.Native.Nat.{◌-◌, ◌%◌}
use lib.ListN.{length}
use Rattle.lists.proofs.Parts.{Valued}
use Rattle.sliding_sums.specs.Inner.Sliding.{sum_from}
use Rattle.sliding_sums.proofs.bytes.Sliding.fill_sums.Given as goal

abbrev pub invariant-loop-at : goal.invariant-loop-at
invariant-loop-at l = (l.at % 64 ≡ 0) × Valued (sum_from l.self) (length l.initial.sums) l.initial.sums l.sums l.at

abbrev pub decreases-loop-at : goal.decreases-loop-at
decreases-loop-at l = length l.initial.sums - l.at
