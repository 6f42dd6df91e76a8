-- `products` meets its contract. Invariant: the first i products are written, and the pairs from i on are left.
use mathlib.Core.Path.{refl, ap, ◌∙◌}
use Rattle.std.specs.Iterator.Adapters.{enumerate_source, zip_first, zip_second}
use Rattle.std.specs.Slice.Iter.{iter_rest}
use Rattle.std.proofs.lemmas.Slice.Zip.{either_empty_from_Zip}
use Rattle.lists.specs.Padded.{zeros, padded}
use Rattle.lists.proofs.Fill.{filled_start, filled_put, filled_end}
use Rattle.lists.proofs.Numbers.{below_at}
use Rattle.lists.proofs.Paired.{PairedTurn, paired_turn, paired_end}
use Rattle.interpolation.proofs.Coefficients.{termwise_from}
use Rattle.interpolation.proofs.sums.products.Goals as goal
use Rattle.interpolation.proofs.sums.products.Goals.{In-Some}

turn : (c : In-Some) →
    let pairs = enumerate_source c.next.new.self in
    PairedTurn c.args.xs.now c.args.ys.now c.in-Some.i c.in-Some.field-0-1-0.now c.in-Some.field-0-1-1.now (iter_rest (zip_first pairs)) (iter_rest (zip_second pairs))
turn c =
    let steps = c.in-Some.ensures.steps in
    paired_turn (rw (← steps.1) at c.loop-i.invariant.0) steps.0

pub loop-i-init : goal.loop-i-init
unfolding zeros
loop-i-init c =
    let same = c.into_iter-i-iterator.ensures.into_iter_gives in
    let all = c.enumerate-i-items.ensures in
    rw (same, all.source, all.count) (record { first = search; second = search }, filled_start 255 _ _ c.requires.0.short)

pub mul-requires : goal.mul-requires
mul-requires c =
    let (xs, ys, same) = c.requires in
    let here = turn (goal.at.mul-requires c).In-Some in
    (rw here.is (below_at _ _ xs.below _ here.inside), rw here.other_is (below_at _ _ ys.below _ here.other_inside))

pub loop-i-preserved : goal.loop-i-preserved
loop-i-preserved c =
    let steps = c.in-Some.ensures.steps in
    let here = turn (goal.at.loop-i-preserved c).In-Some in
    rw (steps.2, ← steps.1) (here.next, filled_put (rw (← steps.1) at c.loop-i.invariant.1) here.inside (c.mul.ensures.is ∙ rw (here.is, here.other_is)))

pub returns : goal.returns
returns c =
    let l = c.loop-i.invariant in
    let end = paired_end l.0 c.requires.2 (either_empty_from_Zip (enumerate_source c.loop-i.i-iterator) (enumerate_source c.next.new.self) _ refl c.in-None.ensures.steps.0) in
    filled_end l.1 end ∙ ap (padded 255) (termwise_from _ c.args.xs.now c.args.ys.now c.requires.2)
