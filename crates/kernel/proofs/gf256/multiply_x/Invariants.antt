-- `gf256::multiply_x` meets its contract. The loop's invariant: the lanes below t are multiplied.
use Rattle.field.specs.Bytes.{times_x}
use Rattle.kernel.proofs.Filling.{Changed}
use Rattle.kernel.proofs.gf256.multiply_x.Given as goal

abbrev pub invariant-loop-sum : goal.invariant-loop-sum
invariant-loop-sum l = Changed (λ t y. times_x y) l.initial.acc l.acc l.sum-index
