-- `Planes::sum` meets its contract.
use mathlib.Core.Path.{◌∙◌}
use Rattle.lists.specs.Padded.{zeros}
use Rattle.repair.proofs.Adding.{sum_none, sum_more}
use Rattle.repair.proofs.sums.Planes.sum.Goals as goal
use Rattle.repair.proofs.sums.Planes.sum.Goals.{In-loop-q}

pub loop-q-init : goal.loop-q-init
unfolding zeros
loop-q-init c = c.fill.ensures.after (λ y e. e) ∙ sum_none c.args.self.weights.now c.args.self.size c.args.self.rows.now c.args.bit.place _ c.requires

pub loop-q-preserved : goal.loop-q-preserved
loop-q-preserved c =
    let l = c.loop-q in
    c.add_chosen.ensures ∙ sum_more c.args.self.weights.now c.args.self.size c.args.self.rows.now c.args.bit.place l.q _ l.acc c.of.ensures.value l.invariant
