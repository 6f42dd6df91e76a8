-- `WordPrime::close_groups` meets its contract. The loop's invariant: the groups before the rest are written.
use Rattle.std.specs.Iterator.Adapters.{enumerate_source}
use Rattle.std.specs.Slice.Iter.{chunks_rest}
use borrow.Author.Rules.{rules}
use mathlib.Core.Path.{◌≡◌, sym, ap, ◌∙◌}
use Prim.Native.Nat.{ℕ, ◌+◌, ◌*◌, min, ◌≤◌, ◌<◌}
use native.Mathlib.Omega.{arith}
use lib.ListN.{length}
use Rattle.carrying.specs.Carrying.{group_words, word_count, carried_words}
use Rattle.carrying.proofs.Carried.{is_carrier}
use Rattle.carrying.proofs.Bytes.{length_carried}
use Rattle.carry.proofs.Parts.{closing_start, closing_few, closing_room, closing_next, closing_end, next_long}
use Rattle.carry.proofs.prime.WordPrime.close_groups.Goals as goal
use Rattle.carry.proofs.prime.WordPrime.close_groups.Goals.{At-loop-i, In-Some, After-div_ceil}

-- a group has a word, and the buffer holds just what is to be written
some : (c : At-loop-i) → 0 < group_words c.args.self.p
some c = omega (arith, c.group_words-size.ensures)

long : (c : At-loop-i) → length (carried_words c.args.self.p c.args.s.now) ≡ length c.args.out.now
long c = length_carried c.args.self.p (is_carrier c.args.self.p c.args.self.large c.args.self.word) c.args.s.now ∙ sym c.requires

-- a group is whole, or the last
size : (c : In-Some) → length c.in-Some.part.now ≡ min (group_words c.args.self.p * 2) (length (chunks_rest (enumerate_source c.loop-i.i-iterator)))
size c = rw c.loop-i.invariant.2 at c.in-Some.ensures.steps.0.1.1

-- its words
count : (c : After-div_ceil) → c.div_ceil.result ≡ word_count (length c.in-Some.part.now)
unfolding word_count
count c = omega (arith, c.div_ceil.ensures)

room : (c : In-Some) →
    c.in-Some.i * (c.group_words-size.result * 2 + 2) + (word_count (length c.in-Some.part.now) * 2 + 2) ≤ length c.args.out.now
room c =
    let l = (goal.at.In-Some c).At-loop-i in
    let steps = c.in-Some.ensures.steps in
    rw (steps.1, c.group_words-size.ensures.0) (closing_room c.in-Some.part.now _ (some l) (long l) c.loop-i.invariant.3 steps.0.1.0 (size c) steps.0.1.2)

pub loop-i-init : goal.loop-i-init
loop-i-init c =
    let same = c.into_iter-i-iterator.ensures.into_iter_gives in
    let all = c.enumerate-i-items.ensures in
    (search rules, tt, rw (same, all.source) (c.chunks.ensures.size ∙ ap (λ (n : ℕ). n * 2) c.group_words-size.ensures.0), rw (same, all.source, all.count, c.chunks.ensures.rest) (closing_start c.args.self.p c.args.out.now c.args.s.now))

pub slice_bounds-close_group-end : goal.slice_bounds-close_group-end
slice_bounds-close_group-end c =
    omega (arith, count (goal.at.slice_bounds-close_group-end c).After-div_ceil, room (goal.at.slice_bounds-close_group-end c).In-Some, c.loop-i.invariant.3.written.long)

pub close_group-requires : goal.close_group-requires
close_group-requires c =
    let d = (goal.at.close_group-requires c).After-div_ceil in
    let s = (goal.at.close_group-requires c).In-Some in
    let few = closing_few c.in-Some.part.now _ (some (goal.at.close_group-requires c).At-loop-i) (long (goal.at.close_group-requires c).At-loop-i) c.loop-i.invariant.3 c.in-Some.ensures.steps.0.1.0 (size s) c.in-Some.ensures.steps.0.1.2 in
    (omega (arith, few, c.group_words-size.ensures), next_long c.loop-i.out (c.in-Some.i * (c.group_words-size.result * 2 + 2)) (word_count (length c.in-Some.part.now) * 2 + 2) _ (omega (arith, count d)) (omega (arith, count d, room s, c.loop-i.invariant.3.written.long)))

pub loop-i-preserved : goal.loop-i-preserved
loop-i-preserved c =
    let l = (goal.at.loop-i-preserved c).At-loop-i in
    let s = (goal.at.loop-i-preserved c).In-Some in
    let steps = c.in-Some.ensures.steps in
    let next = closing_next c.in-Some.part.now _ (some l) (long l) c.loop-i.invariant.3 steps.0.1.0 (size s) steps.0.1.2 in
    (search rules, tt, steps.0.0 ∙ c.loop-i.invariant.2, rw (steps.2, c.close_group.ensures, steps.1, c.group_words-size.ensures.0) (next _ (omega (arith, count (goal.at.loop-i-preserved c).After-div_ceil))))

pub returns : goal.returns
returns c =
    let l = (goal.at.returns c).At-loop-i in
    closing_end (some l) (long l) c.loop-i.invariant.3 c.in-None.ensures.steps.0.1.0
