-- `output` meets its contract. The loop's invariant: the two sums hold the products of the rows below i.
use Rattle.tile_products.proofs.Held.{Held}
use Rattle.tile_products.proofs.prime.Modulus.output.Given as goal

abbrev pub invariant-loop-i : goal.invariant-loop-i
invariant-loop-i l = Held l.fn.self.p l.rows l.list l.tile l.i l.sums.rest l.sums.upper
