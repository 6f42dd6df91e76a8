-- `list_output` meets its contract. The loop's invariant: the slices of the groups below g are listed.
use Rattle.std.proofs.Common.{◌/◌, length}
use Rattle.subset_sums.specs.Inner.Spread.{Streams}
use Rattle.subset_sums.proofs.slices.list_output.Given as goal

abbrev pub invariant-loop-g : goal.invariant-loop-g
invariant-loop-g l = Streams (length l.initial.list / 8) (λ b. l.g) l.w l.list l.counts
