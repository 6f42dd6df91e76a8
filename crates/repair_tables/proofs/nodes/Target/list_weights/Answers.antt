-- `Target::list_weights` meets its contract.
use Rattle.lists.specs.Padded.{zeros}
use Rattle.lists.proofs.Fill.{filled_start, filled_put, filled_end}
use Rattle.repair_tables.proofs.Steps.{bits_fit}
use Rattle.repair_tables.proofs.nodes.Target.list_weights.Goals as goal

pub loop-q-init : goal.loop-q-init
unfolding zeros
loop-q-init c = filled_start 1020 _ _ (rw (← c.count.ensures) at (bits_fit _ c.args.self.bits c.requires.1))

pub loop-q-preserved : goal.loop-q-preserved
loop-q-preserved c = filled_put c.loop-q.invariant c.loop-q-test.true c.weight.ensures

pub returns : goal.returns
returns c = rw c.count.ensures at (filled_end c.loop-q.invariant c.loop-q-test.false)
