-- `prepare_all` meets its contract. The loop's invariant: the outputs below j have their lists.
use Rattle.std.proofs.Common.{◌≡◌, refl}
use native.Mathlib.Omega.{arith}
use Rattle.tile_products.proofs.codes.WeightCodes.prepare_all.Goals as goal

pub loop-j-preserved : goal.loop-j-preserved
loop-j-preserved g c =
    let l = c.loop-j in
    (omega (arith, l.invariant.0), omega (arith, l.invariant.1), λ w size is. (rw (is l.j _ c.loop-j-test.true c.row-weights.ensures, size l.j) at c.prepare.ensures) w refl (l.invariant.2 w size is))

pub returns : goal.returns
returns g c =
    let l = c.loop-j in
    let all : l.j ≡ c.args.outputs = omega (arith, l.auto.j-end, c.loop-j-test.false) in
    λ w size is. rw all at (l.invariant.2 w size is)
