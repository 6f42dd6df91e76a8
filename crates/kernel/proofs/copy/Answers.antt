-- `copy` meets its contract: one lane more.
use mathlib.Core.Path.{refl, sym, ◌∙◌}
use native.Mathlib.Omega.{arith}
use lib.ListN.{length}
use Rattle.lists.proofs.Rows.{from_next}
use Rattle.lists.proofs.Fill.{fills_put}
use Rattle.lists.proofs.Parts.{from_at, valued_all}
use Rattle.kernel.proofs.copy.Goals as goal

pub loop-t-preserved : goal.loop-t-preserved
loop-t-preserved c =
    let l = c.loop-t in fills_put (rw (from_next _ (length c.args.out.now) l.t (omega arith)) at l.invariant) (omega arith)

pub returns : goal.returns
returns c =
    let row = c.args.row.now in
    let n = length c.args.out.now in
    valued_all _ _ c.loop-t.invariant (omega arith) (omega arith)
    ∙ sym (from_at _ row n (omega arith) (λ i h. refl))
