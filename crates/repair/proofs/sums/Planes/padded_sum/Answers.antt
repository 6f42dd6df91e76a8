-- `Planes::padded_sum` meets its contract.
use Rattle.std.proofs.lemmas.List.{drop-replicate}
use Rattle.lists.specs.Padded.{padded, zeros}
use Rattle.repair.proofs.Adding.{length_sum}
use Rattle.repair.proofs.sums.Planes.padded_sum.Goals as goal

pub returns : goal.returns
unfolding padded zeros
returns c = rw (c.sum.ensures, drop-replicate, length_sum)
