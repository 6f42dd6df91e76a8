-- `Sums::total` meets its contract.
use Rattle.std.proofs.Common.{arith}
use Rattle.kernel.specs.Inner.Halves.{total_of}
use Rattle.kernel.proofs.wide.Sums.total.Goals as goal

pub returns-clause-value : goal.returns-clause-value
unfolding total_of
returns-clause-value g c = omega arith
