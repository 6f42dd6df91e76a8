-- `product_sum` meets its contract. The loop's invariant: the products below j are added.
use native.Mathlib.Omega.{arith}
use Rattle.sliding_sums.proofs.Products.{added_one, added_all}
use Rattle.sliding_sums.proofs.prime.product_sum.Goals as goal

pub loop-j-preserved : goal.loop-j-preserved
loop-j-preserved c =
    let l = c.loop-j in
    added_one l.invariant (omega arith) (omega arith) (omega (arith, c.type_inv.weights l.j)) (omega (arith, c.type_inv.row l.j))

pub returns : goal.returns
returns c = added_all c.loop-j.invariant (omega arith)
