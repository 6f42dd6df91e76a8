-- `fill_part` meets its contract. The loop's invariant: the first b digits are done.
use mathlib.Core.Path.{◌≡◌}
use Rattle.sliding_sums.specs.Inner.Sliding.{part_sums}
use Rattle.sliding_sums.proofs.bytes.Sliding.fill_part.Given as goal

abbrev pub invariant-loop-b : goal.invariant-loop-b
invariant-loop-b l = l.acc ≡ part_sums l.self l.at l.b
