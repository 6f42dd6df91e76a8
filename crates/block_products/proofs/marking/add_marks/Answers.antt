-- `add_marks` meets its contract: one lane after the other.
use Rattle.std.proofs.Common.{arith}
use Rattle.kernel.proofs.Filling.{changed_none, changed_lane, changed_all}
use Rattle.block_products.proofs.marking.add_marks.Goals as goal

pub loop-t-init : goal.loop-t-init
loop-t-init c = changed_none _ _

pub loop-t-preserved : goal.loop-t-preserved
loop-t-preserved c = rw c.marked.ensures (changed_lane _ _ c.loop-t.invariant (omega arith))

pub returns : goal.returns
returns c = changed_all _ _ c.loop-t.invariant (omega arith)
