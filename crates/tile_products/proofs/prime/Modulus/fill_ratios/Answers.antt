-- `fill_ratios` meets its contract: one ratio more.
use Rattle.std.proofs.Common.{arith}
use Rattle.lists.proofs.Rows.{from_next}
use Rattle.lists.proofs.Fill.{fills_put}
use Rattle.lists.proofs.Parts.{valued_at}
use Rattle.tile_products.specs.Inner.Ratios.{ratio_of}
use Rattle.tile_products.proofs.prime.Modulus.fill_ratios.Goals as goal

pub loop-c-preserved : goal.loop-c-preserved
unfolding ratio_of
loop-c-preserved c = let l = c.loop-c in fills_put (rw (from_next (ratio_of c.args.self.p) c.args.self.p l.c (omega arith)) at l.invariant) (omega arith)

pub returns : goal.returns
returns c =
    let l = c.loop-c in
    record { long = omega (arith, l.invariant.long); at = λ d h. valued_at _ _ l.invariant (omega arith) d (omega arith) }
