-- `prime::add_scaled` meets its contract: nothing is added for the coefficient 0. The loop's invariant: the lanes below t hold the sum.
use Rattle.std.proofs.Common.{sym, arith}
use Rattle.lists.proofs.Numbers.{below_at}
use Rattle.lists.proofs.Fill.{fills_next}
use Rattle.kernel.specs.Inner.Lanes.{add_scaled}
use Rattle.kernel.proofs.Filling.{changed_none, changed_lane, changed_all}
use Rattle.kernel.proofs.Lanes.{none_added}
use Rattle.kernel.proofs.prime.add_scaled.Goals as goal

pub returns-then-c-eq0 : goal.returns-then-c-eq0
returns-then-c-eq0 c =
    sym (none_added c.args.p c.args.c c.args.row.now c.args.acc.now c.if-c-eq0.true (omega arith) c.requires.3)

pub loop-t-init : goal.loop-t-init
loop-t-init c = changed_none _ _

pub add_product-requires : goal.add_product-requires
add_product-requires c = rw (fills_next c.loop-t.invariant 0) (below_at _ _ c.requires.3 _ (omega arith))

pub loop-t-preserved : goal.loop-t-preserved
loop-t-preserved c = rw c.add_product.ensures (changed_lane _ _ c.loop-t.invariant (omega arith))

pub returns : goal.returns
unfolding add_scaled
returns c = changed_all _ _ c.loop-t.invariant (omega arith)
