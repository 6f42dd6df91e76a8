-- `weighted_sum` meets its contract. Invariant: the sum has the terms from i on, and is a symbol.
use mathlib.Core.Path.{sym}
use native.Mathlib.Omega.{arith}
use Rattle.interpolation.proofs.Dots.{dot_before}
use Rattle.interpolation.proofs.sums.weighted_sum.Goals as goal

pub loop-i-preserved : goal.loop-i-preserved
loop-i-preserved c =
    let l = c.loop-i in
    (c.multiply_add-sum.ensures.symbol, rw (c.multiply_add-sum.ensures.is, l.invariant.1) (sym (dot_before _ c.args.symbols.now c.args.weights.now l.i (omega arith) (omega arith) (omega arith))))
