-- `gf256::multiply_x_add_two` meets its contract. The loop's invariant: the lanes below t hold the sum.
use Rattle.std.proofs.Common.{get_or, bit_xor}
use Rattle.field.specs.Bytes.{times_x}
use Rattle.kernel.proofs.Filling.{Changed}
use Rattle.kernel.proofs.gf256.multiply_x_add_two.Given as goal

abbrev pub invariant-loop-t : goal.invariant-loop-t
invariant-loop-t l = Changed (λ t y. bit_xor (bit_xor (times_x y) (get_or l.a t 0)) (get_or l.b t 0)) l.initial.acc l.acc l.t
