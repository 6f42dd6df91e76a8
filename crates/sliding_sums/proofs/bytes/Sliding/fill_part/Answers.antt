-- `fill_part` meets its contract. The loop's invariant: the first b digits are done.
use mathlib.Core.Path.{refl}
use Rattle.lists.specs.Padded.{zeros}
use Rattle.subset_sums.specs.Inner.Lists.{turns_of}
use Rattle.sliding_sums.proofs.bytes.Sliding.fill_part.Goals as goal

pub loop-b-init : goal.loop-b-init
unfolding turns_of zeros
loop-b-init c = refl
