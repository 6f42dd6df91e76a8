-- `pick_bytes` meets its contract: one byte more.
use Rattle.std.proofs.Common.{length, arith}
use Rattle.lists.proofs.Rows.{from_next}
use Rattle.lists.proofs.Fill.{fills_put}
use Rattle.lists.proofs.Parts.{valued_all}
use Rattle.block_products.proofs.loading.pick_bytes.Goals as goal

pub loop-q-preserved : goal.loop-q-preserved
loop-q-preserved g c =
    let l = c.loop-q in fills_put (rw (from_next _ (length c.args.out.now) l.q (omega arith)) at l.invariant) (omega arith)

pub returns : goal.returns
returns g c = valued_all _ _ c.loop-q.invariant (omega arith) (omega arith)
