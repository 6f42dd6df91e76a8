-- `last_products` meets its contract. Invariant: the product over the m points that are done, a symbol, and those over fewer are written.
use mathlib.Core.Path.{◌≡◌, refl, ap, ◌∙◌}
use mathlib.Core.List.{List, ◌∷◌}
use Prim.Native.Nat.{ℕ, ◌+◌, ◌-◌, ◌<◌}
use native.Mathlib.Omega.{arith}
use lib.ListN.{length, drop}
use Rattle.lists.specs.Padded.{zeros}
use Rattle.lists.proofs.Fill.{filled_start, filled_put, filled_end}
use Rattle.field.specs.Fields.{size_of, sub, mul}
use Rattle.field.specs.Kinds.{modulus}
use Rattle.field.proofs.Bounds.{one_below}
use Rattle.field.proofs.KindLaws.{usable_field}
use Rattle.interpolation.specs.Inner.Lagrange.{product_at}
use Rattle.interpolation.proofs.FromEnd.{from_end_start, next_below, done_short, done_last, done_all, from_end_next}
use Rattle.interpolation.proofs.lagrange.Points.last_products.Goals as goal

pub loop-m-init : goal.loop-m-init
unfolding zeros product_at
loop-m-init c =
    let v = c.args.self in
    let same = c.into_iter-m-iterator.ensures.into_iter_gives in
    let all = c.enumerate-m-items.ensures in
    let start : c.rev.result.iter.rest.now ≡ c.args.self.points.now = cc in
    rw (same, all.source, all.count, start) (one_below _ (usable_field _ v.field.usable), from_end_start v.points.now _ (refl, refl), filled_start 255 _ _ v.symbols.short)

pub sub-factor-requires : goal.sub-factor-requires
sub-factor-requires c =
    let low : c.from.result < size_of (modulus c.args.self.field.field) = rw c.from.ensures (next_below _ _ c.in-Some.ensures.steps.0 c.loop-m.invariant.1 _ c.args.self.symbols.below) in
    (search, search)

pub loop-m-preserved : goal.loop-m-preserved
unfolding product_at
loop-m-preserved c =
    let a = c.args in
    let l = c.loop-m in
    let xs = a.self.points.now in
    let p = modulus a.self.field.field in
    let steps = c.in-Some.ensures.steps in
    let now = l.invariant.1 in
    let done : c.in-Some.m ≡ length now.done = steps.1 ∙ now.holds.0 in
    let inside : c.in-Some.m < length xs = omega (arith, done, done_short _ _ steps.0 now) in
    let next : c.in-Some.m + 1 ≡ length (c.in-Some.point.now ∷ now.done) = omega (arith, done) in
    let is : c.mul-product.result ≡ mul p (sub p a.z c.in-Some.point.now) (product_at p now.done a.z) = c.mul-product.ensures.is ∙ rw (c.sub-factor.ensures.is, c.from.ensures) (ap (mul p _) now.holds.1) in
    let here : l.product ≡ product_at p (drop (length xs - c.in-Some.m) xs) a.z = now.holds.1 ∙ ap (λ (ys : List ℕ). product_at p ys a.z) (done_last _ _ steps.0 now _ done) in
    rw (steps.2, ← steps.1) (
      c.mul-product.ensures.symbol,
      from_end_next _ _ steps.0 now (λ ys. (c.in-Some.m + 1 ≡ length ys) × (c.mul-product.result ≡ product_at p ys a.z)) (next, is),
      filled_put (rw (← steps.1) at l.invariant.2) inside here,
    )

pub returns : goal.returns
returns c =
    let l = c.loop-m.invariant in
    filled_end l.2 (done_all l.1 _ l.1.holds.0 c.in-None.ensures.steps.0.0)
