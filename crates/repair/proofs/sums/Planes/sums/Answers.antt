-- `Planes::sums` meets its contract. Invariant: the sums below p are made.
use Prim.Native.Nat.{◌<◌}
use native.Mathlib.Omega.{arith}
use Rattle.lists.proofs.Rows.{from_next}
use Rattle.lists.proofs.Fill.{fills_put}
use Rattle.repair.proofs.sums.Planes.sums.Goals as goal

pub loop-p-preserved : goal.loop-p-preserved
loop-p-preserved c =
    let low : c.loop-p.p < 8 = omega (arith, c.loop-p-test.true) in
    rw c.padded_sum.ensures (fills_put (rw (from_next _ 8 _ low) at c.loop-p.invariant) low)
