-- `gf256::add` meets its contract. The loop's invariant: the lanes below t hold the sum.
use Rattle.std.proofs.Common.{get_or, bit_xor}
use Rattle.kernel.proofs.Filling.{Changed}
use Rattle.kernel.proofs.gf256.add.Given as goal

abbrev pub invariant-loop-t : goal.invariant-loop-t
invariant-loop-t l = Changed (λ t y. bit_xor y (get_or l.row t 0)) l.initial.acc l.acc l.t
