-- `coefficients` meets its contract.
use lib.ListN.{length, get_or}
use Rattle.lists.proofs.Fill.{Filled}
use Rattle.generator.specs.Shifts.{negative}
use Rattle.lane_message.proofs.sums.coefficients.Given as goal

abbrev pub invariant-loop-c : goal.invariant-loop-c
invariant-loop-c l = Filled 255 l.k (λ c. get_or l.spectrum (negative (length l.spectrum) c) 0) l.c l.out
