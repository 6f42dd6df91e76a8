-- `difference` meets its contract: `Filled` is the invariant, and the pairs from j on are left.
use mathlib.Core.Path.{refl, sym, ap, ◌∙◌}
use Prim.Native.Nat.{ℕ}
use native.Mathlib.Omega.{arith}
use lib.ListN.{get_or}
use Rattle.std.specs.Iterator.Adapters.{enumerate_source, zip_first, zip_second}
use Rattle.std.specs.Slice.Iter.{iter_rest}
use Rattle.std.proofs.lemmas.Slice.Zip.{either_empty_from_Zip}
use Rattle.lists.specs.Padded.{zeros, padded}
use Rattle.lists.specs.Rows.{from}
use Rattle.lists.proofs.Fill.{filled_start, filled_put, filled_end}
use Rattle.lists.proofs.Numbers.{below_at}
use Rattle.lists.proofs.Paired.{PairedTurn, paired_turn, paired_end}
use Rattle.field.specs.Fields.{sub}
use Rattle.generator.specs.Records.{modulus_of}
use Rattle.find_update.specs.Inner.Starts.{differences}
use Rattle.find_update.proofs.compare.difference.Goals as goal
use Rattle.find_update.proofs.compare.difference.Goals.{In-Some}

turn : (c : In-Some) →
    let pairs = enumerate_source c.next.new.self in
    PairedTurn c.args.after.now c.args.before.now c.in-Some.j c.in-Some.field-0-1-0.now c.in-Some.field-0-1-1.now (iter_rest (zip_first pairs)) (iter_rest (zip_second pairs))
turn c =
    let steps = c.in-Some.ensures.steps in
    paired_turn (rw (← steps.1) at c.loop-j.invariant.0) steps.0

pub loop-j-init : goal.loop-j-init
unfolding zeros
loop-j-init c =
    let same = c.into_iter-j-iterator.ensures.into_iter_gives in
    let all = c.enumerate-j-items.ensures in
    rw (same, all.source, all.count) (record { first = search; second = search }, filled_start 255 _ _ (omega (arith, c.requires.1.long)))

pub sub-requires : goal.sub-requires
sub-requires c =
    let (before, after) = c.requires in
    let here = turn (goal.at.sub-requires c).In-Some in
    (search, rw here.is (below_at _ _ after.symbols _ here.inside), rw here.other_is (below_at _ _ before.symbols _ here.other_inside))

pub loop-j-preserved : goal.loop-j-preserved
loop-j-preserved c =
    let steps = c.in-Some.ensures.steps in
    let here = turn (goal.at.loop-j-preserved c).In-Some in
    rw (steps.2, ← steps.1) (here.next, filled_put (rw (← steps.1) at c.loop-j.invariant.1) here.inside (c.sub.ensures ∙ rw (here.is, here.other_is)))

pub returns : goal.returns
unfolding differences
returns c =
    let (before, after) = c.requires in
    let l = c.loop-j.invariant in
    let end = paired_end l.0 (before.long ∙ sym after.long) (either_empty_from_Zip (enumerate_source c.loop-j.j-iterator) (enumerate_source c.next.new.self) _ refl c.in-None.ensures.steps.0) in
    filled_end l.1 end ∙ ap (λ (n : ℕ). padded 255 (from (λ j. sub (modulus_of c.args.code.header) (get_or c.args.after.now j 0) (get_or c.args.before.now j 0)) 0 n)) after.long
