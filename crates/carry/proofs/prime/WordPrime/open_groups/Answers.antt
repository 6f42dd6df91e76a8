-- `WordPrime::open_groups` meets its contract. The loop's invariant: the groups before the rest are read.
use Rattle.std.specs.Iterator.Adapters.{enumerate_source, enumerate_count}
use Rattle.std.specs.Slice.Iter.{chunks_rest}
use borrow.Author.Rules.{rules}
use mathlib.Core.Path.{◌≡◌, ap, ap₂, ◌∙◌}
use Prim.Native.Nat.{ℕ, ◌+◌, ◌-◌, ◌*◌, ◌%◌, min, ◌≤◌, ◌<◌}
use native.Mathlib.Omega.{arith}
use lib.ListN.{length, take, drop}
use Rattle.carrying.specs.Carrying.{group_words, word_bytes_back}
use Rattle.carrying.proofs.Carried.{is_carrier}
use Rattle.carrying.proofs.Bytes.{length_back}
use Rattle.carry.proofs.Parts.{opening_start, opening_part, opening_next, opening_end, next_long}
use Rattle.carry.proofs.prime.WordPrime.open_groups.Goals as goal
use Rattle.carry.proofs.prime.WordPrime.open_groups.Goals.{At-loop-i, In-Some, After-min-end}

-- a group has a word, and the buffer holds just what is to be written
some : (c : At-loop-i) → 0 < group_words c.args.self.p
some c = omega (arith, c.group_words-size.ensures)

long : (c : At-loop-i) → length (word_bytes_back c.args.self.p (length c.args.out.now) c.args.symbols.now) ≡ length c.args.out.now
long c = length_back c.args.self.p (is_carrier c.args.self.p c.args.self.large c.args.self.word) (length c.args.out.now) c.args.symbols.now c.requires

-- a group is whole, or the last
size : (c : In-Some) → length c.in-Some.group.now ≡ min (group_words c.args.self.p * 2 + 2) (length (chunks_rest (enumerate_source c.loop-i.i-iterator)))
size c = rw c.loop-i.invariant.2 at c.in-Some.ensures.steps.0.1.1

part : (c : In-Some) →
    (2 ≤ length c.in-Some.group.now) × (length c.in-Some.group.now % 2 ≡ 0) × (length c.in-Some.group.now ≤ c.group_words-size.result * 2 + 2) × (c.in-Some.i * (c.group_words-size.result * 2) ≤ length c.args.out.now)
part c =
    let steps = c.in-Some.ensures.steps in
    rw (steps.1, c.group_words-size.ensures.0) (opening_part c.in-Some.group.now _ (some (goal.at.In-Some c).At-loop-i) c.loop-i.invariant.3 steps.0.1.0 (size c) steps.0.1.2)

-- where it begins, so many bytes of it are written
begins : (c : After-min-end) →
    c.in-Some.i * (c.group_words-size.result * 2) ≤ c.min-end.result
begins c = omega (arith, part (goal.at.After-min-end c).In-Some, c.min-end.ensures, c.loop-i.invariant.3.written.long)

written : (c : After-min-end) →
    let to = c.in-Some.i * (c.group_words-size.result * 2) in length (take (c.min-end.result - to) (drop to c.loop-i.out)) ≡ c.min-end.result - to
written c =
    next_long c.loop-i.out (c.in-Some.i * (c.group_words-size.result * 2)) _ c.min-end.result (omega (arith, begins c)) (omega (arith, c.min-end.ensures))

pub loop-i-init : goal.loop-i-init
loop-i-init c =
    let same = c.into_iter-i-iterator.ensures.into_iter_gives in
    let all = c.enumerate-i-items.ensures in
    (search rules, tt, rw (same, all.source) (c.chunks.ensures.size ∙ ap (λ (n : ℕ). n * 2 + 2) c.group_words-size.ensures.0), rw (same, all.source, all.count, c.chunks.ensures.rest) (opening_start c.args.self.p c.args.out.now c.args.symbols.now c.requires))

pub overflow_sub-to : goal.overflow_sub-to
overflow_sub-to c = omega (arith, part (goal.at.overflow_sub-to c).In-Some)

pub slice_bounds-open_group-count : goal.slice_bounds-open_group-count
slice_bounds-open_group-count c = begins (goal.at.slice_bounds-open_group-count c).After-min-end

pub slice_bounds-open_group-start : goal.slice_bounds-open_group-start
slice_bounds-open_group-start c = omega (arith, begins (goal.at.slice_bounds-open_group-start c).After-min-end, c.min-end.ensures)

pub open_group-requires : goal.open_group-requires
open_group-requires c =
    let here = part (goal.at.open_group-requires c).In-Some in
    (here.1, omega (arith, here, written (goal.at.open_group-requires c).After-min-end, c.min-end.ensures))

pub loop-i-preserved : goal.loop-i-preserved
loop-i-preserved c =
    let l = (goal.at.loop-i-preserved c).At-loop-i in
    let s = (goal.at.loop-i-preserved c).In-Some in
    let steps = c.in-Some.ensures.steps in
    let next = opening_next c.in-Some.group.now _ (some l) c.loop-i.invariant.3 steps.0.1.0 (size s) steps.0.1.2 (long l) in
    let to : c.in-Some.i * (c.group_words-size.result * 2) ≡ enumerate_count c.loop-i.i-iterator * (group_words c.args.self.p * 2) = ap₂ (λ (x y : ℕ). x * (y * 2)) steps.1 c.group_words-size.ensures.0 in
    let end = c.min-end.ensures in
    (search rules, tt, steps.0.0 ∙ c.loop-i.invariant.2, rw (steps.2, c.open_group.ensures, written (goal.at.loop-i-preserved c).After-min-end, steps.1, c.group_words-size.ensures.0) (next _ (omega (arith, to, part s, end, c.loop-i.invariant.3.written.long)) _ (omega (arith, to, part s, end, c.loop-i.invariant.3.written.long))))

pub returns : goal.returns
returns c = opening_end (long (goal.at.returns c).At-loop-i) c.loop-i.invariant.3 c.in-None.ensures.steps.0.1.0
