-- `values` meets its contract. Invariant: the product over the points before number i, a symbol, and the values below i are written.
use mathlib.Core.Path.{◌≡◌, sym, ◌∙◌}
use Prim.Native.Nat.{◌+◌, ◌-◌, ◌<◌}
use lib.ListN.{length, get_or, drop}
use Rattle.lists.specs.Padded.{zeros}
use Rattle.lists.proofs.Fill.{filled_start, filled_put}
use Rattle.lists.proofs.Numbers.{below_drop}
use Rattle.field.specs.Fields.{size_of}
use Rattle.field.specs.Kinds.{modulus}
use Rattle.field.proofs.Bounds.{one_below}
use Rattle.field.proofs.KindLaws.{usable_field}
use Rattle.interpolation.specs.Inner.Lagrange.{product_at, scale_at, basis_at}
use Rattle.interpolation.proofs.Values.{get_or_scales, product_at_below, scale_at_below}
use Rattle.interpolation.proofs.Basis.{product_last, product_none, after_at, basis_is}
use Rattle.interpolation.proofs.lagrange.Points.values.Goals as goal
use Rattle.interpolation.proofs.lagrange.Points.values.Goals.{In-loop-i}

-- what a turn reads: the product over the points after number i, and the scale, symbols
after_is : (c : In-loop-i) → let v = c.args.self in get_or c.last_products-after.result (length v.points.now - c.loop-i.i - 1) 0 ≡ product_at (modulus v.field.field) (drop (c.loop-i.i + 1) v.points.now) c.args.z
after_is c = let v = c.args.self in rw c.last_products-after.ensures (after_at (modulus v.field.field) v.points.now c.args.z c.loop-i.i c.loop-i-test.true)

after-low : (c : In-loop-i) → let v = c.args.self in get_or c.last_products-after.result (length v.points.now - c.loop-i.i - 1) 0 < size_of (modulus v.field.field)
after-low c =
    let v = c.args.self in
    rw (after_is c) (product_at_below _ (usable_field _ v.field.usable) _ _ (below_drop _ (c.loop-i.i + 1) _ v.symbols.below) c.requires.1)

scale-here : (c : In-loop-i) → let v = c.args.self in get_or c.args.scales.now c.loop-i.i 0 ≡ scale_at (modulus v.field.field) v.points.now c.loop-i.i
scale-here c = let v = c.args.self in rw c.requires.0 (get_or_scales (modulus v.field.field) v.points.now c.loop-i.i c.loop-i-test.true)

scale-low : (c : In-loop-i) → get_or c.args.scales.now c.loop-i.i 0 < size_of (modulus c.args.self.field.field)
scale-low c = let v = c.args.self in rw (scale-here c) (scale_at_below _ (usable_field _ v.field.usable) _ _ v.symbols.below c.loop-i-test.true)

pub loop-i-init : goal.loop-i-init
unfolding zeros
loop-i-init c =
    let v = c.args.self in
    (one_below _ (usable_field _ v.field.usable), sym (product_none (modulus v.field.field) v.points.now c.args.z), filled_start 255 _ _ v.symbols.short)

pub mul-others-requires : goal.mul-others-requires
mul-others-requires c = (c.loop-i.invariant.0, after-low c)

pub mul-requires : goal.mul-requires
mul-requires c = (scale-low (goal.at.mul-requires c).In-loop-i, c.mul-others.ensures.symbol)

pub loop-i-preserved : goal.loop-i-preserved
loop-i-preserved c =
    let v = c.args.self in
    let l = c.loop-i in
    let test = c.loop-i-test.true in
    let w = (goal.at.loop-i-preserved c).In-loop-i in
    let p = modulus v.field.field in
    let value : c.mul.result ≡ basis_at p v.points.now l.i c.args.z = c.mul.ensures.is ∙ rw (scale-here w, c.mul-others.ensures.is, l.invariant.1, after_is w) (basis_is p v.points.now c.args.z l.i test) in (
      c.mul-before.ensures.symbol,
      c.mul-before.ensures.is ∙ rw (c.sub-factor.ensures.is, l.invariant.1) (sym (product_last p (usable_field _ v.field.usable) c.args.z c.requires.1 v.points.now l.i v.symbols.below test)),
      filled_put l.invariant.2 test value,
    )
