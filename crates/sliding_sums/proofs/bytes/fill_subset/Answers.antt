-- `fill_subset` meets its contract. The loop's invariant: the places below t have their sum.
use mathlib.Core.Path.{◌∙◌}
use native.Mathlib.Omega.{arith}
use Rattle.lists.proofs.Parts.{valued_all}
use Rattle.sliding_sums.proofs.Tables.{subset_is}
use Rattle.sliding_sums.proofs.Valued.{valued_next}
use Rattle.sliding_sums.proofs.bytes.fill_subset.Goals as goal

pub loop-t-preserved : goal.loop-t-preserved
loop-t-preserved c =
    let l = c.loop-t in
    valued_next _ _ l.invariant (omega arith) (omega arith) (c.subset_sum.ensures ∙ subset_is c.args.row.now c.args.v l.t)

pub returns : goal.returns
returns c = valued_all _ _ c.loop-t.invariant (omega arith) (omega arith)
