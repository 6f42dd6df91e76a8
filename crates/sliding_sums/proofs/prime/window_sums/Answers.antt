-- `window_sums` meets its contract. The loop's invariant: the places below t have their sum.
use mathlib.Core.Path.{sym}
use Prim.Native.Nat.{◌<◌}
use native.Mathlib.Nat.{mod-lt}
use native.Mathlib.Omega.{arith}
use lib.ListN.{drop}
use Rattle.lists.proofs.Parts.{valued_all}
use Rattle.lists.proofs.Rows.{part_rest}
use Rattle.field.proofs.Primes.{two≤prime}
use Rattle.sliding_sums.specs.Inner.Windows.{window_sums}
use Rattle.sliding_sums.proofs.Products.{dot_reduced}
use Rattle.sliding_sums.proofs.Valued.{valued_next}
use Rattle.sliding_sums.proofs.prime.window_sums.Goals as goal
use Rattle.sliding_sums.proofs.prime.window_sums.Goals.{Start}

some : (c : Start) → 0 < c.args.p
some c = omega (arith, two≤prime _ c.requires.0)

pub nonzero_rem-sum : goal.nonzero_rem-sum
nonzero_rem-sum c = some (goal.at.nonzero_rem-sum c).Start

pub overflow_cast-sum-in-loop-t : goal.overflow_cast-sum-in-loop-t
overflow_cast-sum-in-loop-t c =
    omega (arith, mod-lt c.product_sum.result (some (goal.at.overflow_cast-sum-in-loop-t c).Start), c.requires.1)

pub loop-t-preserved : goal.loop-t-preserved
loop-t-preserved c =
    let l = c.loop-t in
    let a = c.args in
    valued_next _ _ l.invariant (omega arith) (omega arith)
    (rw (c.product_sum.ensures, part_rest) (sym (dot_reduced a.p (some (goal.at.loop-t-preserved c).Start) a.weights.now (drop l.t a.row.now))))

pub returns : goal.returns
unfolding window_sums
returns c = valued_all _ _ c.loop-t.invariant (omega arith) (omega arith)
