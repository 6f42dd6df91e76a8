-- `scale` meets its contract: one ratio more.
use Rattle.std.proofs.Common.{ℕ, ◌<◌, length, get_or, arith}
use Rattle.lists.proofs.Numbers.{below_at}
use Rattle.lists.proofs.Rows.{from_next}
use Rattle.lists.proofs.Fill.{fills_put}
use Rattle.lists.proofs.Parts.{valued_at}
use Rattle.tile_products.proofs.Reduction.{ratio_fits}
use Rattle.tile_products.proofs.prime.Modulus.scale.Goals as goal
use Rattle.tile_products.proofs.prime.Modulus.scale.Goals.{In-loop-i}

-- the weight is below p
low : (c : In-loop-i) → get_or c.args.weights.now c.loop-i.i 0 < c.args.self.p
low c = below_at c.args.self.p c.args.weights.now c.requires.below c.loop-i.i c.loop-i-test.true

pub bounds-codes-w : goal.bounds-codes-w
bounds-codes-w c = omega (arith, low (goal.at.bounds-codes-w c).In-loop-i, c.requires.known.long)

pub overflow_cast-out-in-loop-i : goal.overflow_cast-out-in-loop-i
overflow_cast-out-in-loop-i c =
    let w : ℕ = get_or c.args.weights.now c.loop-i.i 0 in
    let below = low (goal.at.overflow_cast-out-in-loop-i c).In-loop-i in
    omega (arith, c.requires.known.at w below, ratio_fits c.args.self.p w c.args.self.fits below)

pub loop-i-preserved : goal.loop-i-preserved
loop-i-preserved c =
    let l = c.loop-i in
    let ws = c.args.weights.now in
    let w : ℕ = get_or ws l.i 0 in
    rw (c.requires.known.at w (low (goal.at.loop-i-preserved c).In-loop-i)) (fills_put (rw (from_next _ (length ws) l.i (omega arith)) at l.invariant) (omega arith))

pub returns : goal.returns
returns c = λ i h. valued_at _ _ c.loop-i.invariant (omega arith) i (omega arith)
