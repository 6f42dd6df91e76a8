-- `store` meets its contract: one lane more.
use Rattle.std.proofs.Common.{arith}
use Rattle.lists.proofs.Rows.{from_next}
use Rattle.lists.proofs.Fill.{fills_put}
use Rattle.lists.proofs.Parts.{valued_all}
use Rattle.tile_products.proofs.prime.Modulus.store.Goals as goal

pub loop-t-preserved : goal.loop-t-preserved
loop-t-preserved c =
    rw c.total.ensures (fills_put (rw (from_next _ 64 c.loop-t.t (omega arith)) at c.loop-t.invariant) (omega arith))

pub returns : goal.returns
returns c = valued_all _ 64 c.loop-t.invariant (omega arith) (omega arith)
