-- `product_in_turn` meets its contract. Invariant: the product over the points that are done, a symbol.
use mathlib.Core.Path.{◌≡◌, refl, ap, ◌∙◌}
use Rattle.field.specs.Fields.{mul}
use Rattle.field.specs.Kinds.{modulus}
use Rattle.field.proofs.Bounds.{one_below}
use Rattle.field.proofs.KindLaws.{usable_field}
use Rattle.interpolation.specs.Inner.Lagrange.{product_at}
use Rattle.interpolation.proofs.FromEnd.{from_end_start, next_below, from_end_next}
use Rattle.interpolation.proofs.lagrange.Points.product_in_turn.Goals as goal

pub loop-x-init : goal.loop-x-init
unfolding product_at
loop-x-init c =
    let v = c.args.self in
    let start : c.into_iter-x-iterator.result.iter.rest.now ≡ v.points.now = cc in
    (one_below _ (usable_field _ v.field.usable), rw start (from_end_start v.points.now _ refl))

pub sub-factor-requires : goal.sub-factor-requires
sub-factor-requires c =
    (c.requires, rw c.from.ensures (next_below _ _ c.in-Some.ensures.steps c.loop-x.invariant.1 _ c.args.self.symbols.below))

pub loop-x-preserved : goal.loop-x-preserved
unfolding product_at
loop-x-preserved c =
    let l = c.loop-x in
    let p = modulus c.args.self.field.field in
    let is = c.mul-product.ensures.is ∙ rw (c.sub-factor.ensures.is, c.from.ensures) (ap (mul p _) l.invariant.1.holds) in
    (c.mul-product.ensures.symbol, from_end_next _ _ c.in-Some.ensures.steps l.invariant.1 (λ xs. c.mul-product.result ≡ product_at p xs c.args.z) is)
