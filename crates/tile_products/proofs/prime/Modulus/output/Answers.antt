-- `output` meets its contract: a row more is added, or its weight is 0.
use Rattle.std.proofs.Common.{◌<◌, ◌∙◌, arith}
use Rattle.lists.proofs.Numbers.{at_below}
use Rattle.tile_products.proofs.Held.{held_none, held_row, held_zero, held_all}
use Rattle.tile_products.proofs.prime.Modulus.output.Goals as goal
use Rattle.tile_products.proofs.prime.Modulus.output.Goals.{then-c-ne0, else-c-ne0}

pub loop-i-init : goal.loop-i-init
loop-i-init c =
    let a = c.args in rw (c.none-sums.ensures.0, c.none-sums.ensures.1) (held_none a.self.p a.rows a.list.now a.tile.now (omega (arith, a.self.some)))

pub loop-i-preserved : goal.loop-i-preserved
loop-i-preserved c =
    let a = c.args in
    let l = c.loop-i in
    let pre = c.requires in
    let some : 0 < a.self.p = omega (arith, a.self.some) in
    let bytes = at_below 256 a.tile.now (λ i h. omega (arith, c.type_inv.tile i)) in
    elim c.if-c-ne0.branch [
      | then-c-ne0 w ↦ rw (w.sums-is, w.add_product.ensures.rest, w.add_product.ensures.upper) (held_row a.self.p a.rows a.list.now a.tile.now some pre.in_scale pre.tile_long bytes a.self.fits l.i c.loop-i-test.true l.sums.rest l.sums.upper l.invariant)
      | else-c-ne0 w ↦ rw w.sums-is (held_zero a.self.p a.rows a.list.now a.tile.now some pre.in_scale pre.tile_long bytes a.self.fits l.i c.loop-i-test.true l.sums.rest l.sums.upper w.if-c-ne0.false l.invariant)
    ]

pub returns : goal.returns
returns c =
    let a = c.args in
    let l = c.loop-i in
    c.store.ensures ∙ held_all a.self.p a.rows a.list.now a.tile.now (omega (arith, a.self.some)) l.i l.sums.rest l.sums.upper (omega arith) (omega (arith, c.requires.in_scale.few)) l.invariant
