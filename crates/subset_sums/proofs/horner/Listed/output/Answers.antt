-- `Listed::output` meets its contract. The loop's invariant: the first b digits are done.
use Rattle.std.proofs.Common.{refl}
use Rattle.lists.specs.Padded.{zeros}
use Rattle.subset_sums.specs.Inner.Lists.{turns_of}
use Rattle.subset_sums.proofs.horner.Listed.output.Goals as goal

pub loop-b-init : goal.loop-b-init
unfolding turns_of zeros
loop-b-init c = refl
