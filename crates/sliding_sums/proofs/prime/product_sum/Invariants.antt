-- `product_sum` meets its contract. The loop's invariant: the products below j are added.
use Rattle.sliding_sums.proofs.Products.{Added}
use Rattle.sliding_sums.proofs.prime.product_sum.Given as goal

abbrev pub invariant-loop-j : goal.invariant-loop-j
invariant-loop-j l = Added l.weights l.row l.j l.sum
