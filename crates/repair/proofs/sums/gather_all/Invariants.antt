-- `sums::gather_all` meets its contract.
use Rattle.kernel.proofs.Filling.{Changed}
use Rattle.repair.specs.Inner.Sums.{lane_byte}
use Rattle.repair.proofs.sums.gather_all.Given as goal

abbrev pub invariant-loop-i : goal.invariant-loop-i
invariant-loop-i l = Changed (λ i y. lane_byte l.planes i) l.initial.out l.out l.i
