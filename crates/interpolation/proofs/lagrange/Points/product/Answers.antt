-- `product` meets its contract. Invariant: the product over the i points that are done.
use mathlib.Core.Path.{◌≡◌, refl, ◌∙◌}
use Prim.Native.Nat.{◌+◌}
use native.Mathlib.Omega.{arith}
use lib.ListN.{length}
use Rattle.lists.specs.Padded.{zeros}
use Rattle.field.specs.Kinds.{modulus}
use Rattle.field.proofs.KindLaws.{usable_field}
use Rattle.interpolation.specs.Inner.Polynomials.{product_of}
use Rattle.interpolation.proofs.Coefficients.{Grows, grows, one_padded, length_product_of, product_of_below}
use Rattle.interpolation.proofs.FromEnd.{from_end_start, next_below, done_below, done_short, from_end_next}
use Rattle.interpolation.proofs.lagrange.Points.product.Goals as goal
use Rattle.interpolation.proofs.lagrange.Points.product.Goals.{In-Some}

-- one factor more
more : (c : In-Some)
    → let a = c.args in
    let l = c.loop-i in
    Grows (modulus a.self.field.field) c.in-Some.a.now (c.in-Some.i + 1) (product_of (modulus a.self.field.field) l.invariant.done) l.out
more c =
    let a = c.args in
    let l = c.loop-i in
    let s = a.self.symbols in
    let v = usable_field _ a.self.field.usable in
    let steps = c.in-Some.ensures.steps in
    let done : c.in-Some.i ≡ length l.invariant.done = steps.1 ∙ l.invariant.holds.0 in
    let size : length (product_of (modulus a.self.field.field) l.invariant.done) ≡ c.in-Some.i + 1 = omega (arith, length_product_of (modulus a.self.field.field) l.invariant.done, done) in
    grows _ v _ _ _ l.out l.invariant.holds.1 size (omega (arith, s.short, done, done_short _ _ steps.0 l.invariant)) (product_of_below _ v _ (done_below _ _ steps.0 l.invariant _ s.below)) (next_below _ _ steps.0 l.invariant _ s.below)

-- as code has it: i + 2 places
places : (c : In-Some) → c.in-Some.i + 2 ≡ c.in-Some.i + 1 + 1
places c = omega arith

pub loop-i-init : goal.loop-i-init
unfolding zeros product_of
loop-i-init c =
    let same = c.into_iter-i-iterator.ensures.into_iter_gives in
    let all = c.enumerate-i-items.ensures in
    let start : c.rev.result.iter.rest.now ≡ c.args.self.points.now = cc in
    rw (same, all.source, all.count, start) (from_end_start c.args.self.points.now _ (refl, one_padded))

pub times_linear-requires : goal.times_linear-requires
times_linear-requires c =
    let w = (goal.at.times_linear-requires c).In-Some in
    (rw (places w) (more w).symbols, rw c.from.ensures (next_below _ _ c.in-Some.ensures.steps.0 c.loop-i.invariant _ c.args.self.symbols.below))

pub loop-i-preserved : goal.loop-i-preserved
unfolding product_of
loop-i-preserved c =
    let l = c.loop-i in
    let steps = c.in-Some.ensures.steps in
    let w = (goal.at.loop-i-preserved c).In-Some in
    let whole = (more w).whole _ (rw (c.from.ensures, places w) at c.times_linear.ensures) in
    let done : c.in-Some.i ≡ length l.invariant.done = steps.1 ∙ l.invariant.holds.0 in
    from_end_next _ _ steps.0 l.invariant _ (omega (arith, steps.2, done), rw (places w) whole)
