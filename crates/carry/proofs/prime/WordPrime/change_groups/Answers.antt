-- `WordPrime::change_groups` meets its contract. The loop's invariant: the groups in front hold what was changed there, and the others are as they were.
use mathlib.Core.Path.{◌≡◌, ap, ◌∙◌}
use mathlib.Core.Bool.{true}
use Prim.Native.Nat.{◌+◌, ◌-◌, ◌*◌, min, ◌≤◌}
use native.Mathlib.Omega.{arith}
use lib.ListN.{length, take, drop}
use Rattle.lists.specs.Numbers.{all_below}
use Rattle.lists.proofs.Numbers.{at_below}
use Rattle.layout.proofs.Widths.{length_bytes}
use Rattle.carrying.specs.Carrying.{group_words}
use Rattle.carrying.proofs.Carried.{Carrier, is_carrier}
use Rattle.carry.proofs.Changes.{changing_start, changing_step, changing_end, from_fits, chunk_most, group_long, group_is, part_fits}
use Rattle.carry.proofs.prime.WordPrime.change_groups.Goals as goal
use Rattle.carry.proofs.prime.WordPrime.change_groups.Goals.{At-loop-done, After-min-next, After-min-end}

carrier : (c : At-loop-done) → Carrier c.args.self.p
carrier c = is_carrier c.args.self.p c.args.self.large c.args.self.word

low : (c : At-loop-done) → all_below 256 c.args.bytes.now ≡ true
low c = at_below 256 c.args.bytes.now (λ i h. omega (arith, c.type_inv.bytes i))

-- where the part of this group ends, and the group
next_is : (c : After-min-next) → c.min-next.result ≡ min (length c.args.bytes.now) (c.loop-done.done + (group_words c.args.self.p * 2 - c.loop-done.place))
next_is c = rw c.group_words-size.ensures.0 at c.min-next.ensures

end_is : (c : After-min-end) →
    c.min-end.result ≡ min (length c.loop-done.symbols) (c.loop-done.i * (group_words c.args.self.p * 2 + 2) + (group_words c.args.self.p * 2 + 2))
end_is c = rw c.group_words-size.ensures.0 at c.min-end.ensures

fits : (c : After-min-next) → (c.loop-done.i * (c.group_words-size.result * 2 + 2) ≤ length c.loop-done.symbols) × (c.loop-done.i ≤ length c.loop-done.symbols)
fits c =
    let l = (goal.at.After-min-next c).At-loop-done in rw c.group_words-size.ensures.0 (from_fits (carrier l) c.loop-done.invariant (low l) c.loop-done-test.true)

ends : (c : After-min-end) →
    let from = c.loop-done.i * (c.group_words-size.result * 2 + 2) in
    (from ≤ c.min-end.result) × (c.min-end.result ≤ length c.loop-done.symbols) × (c.min-end.result - from ≡ length (take (group_words c.args.self.p + 1) c.loop-done.invariant.left) * 2)
ends c =
    let l = (goal.at.After-min-end c).At-loop-done in
    rw c.group_words-size.ensures.0 (group_long (carrier l) c.loop-done.invariant (low l) c.loop-done-test.true c.min-end.result (end_is c))

-- the bytes of the group
long : (c : After-min-end) →
    let from = c.loop-done.i * (c.group_words-size.result * 2 + 2) in
    length (take (c.min-end.result - from) (drop from c.loop-done.symbols)) ≡ length (take (group_words c.args.self.p + 1) c.loop-done.invariant.left) * 2
long c =
    let l = (goal.at.After-min-end c).At-loop-done in
    rw c.group_words-size.ensures.0 (ap length (group_is (carrier l) c.loop-done.invariant (low l) c.loop-done-test.true c.min-end.result (end_is c)) ∙ length_bytes 2 (take (group_words c.args.self.p + 1) c.loop-done.invariant.left))

pub loop-done-init : goal.loop-done-init
loop-done-init c =
    let symbols = at_below 256 c.args.symbols.now (λ i h. omega (arith, c.type_inv.symbols i)) in
    rw c.group_words-size.ensures.0 (changing_start c.args.self.p (omega (arith, c.group_words-size.ensures)) c.args.at c.args.symbols.now c.args.bytes.now c.requires.0 symbols c.requires.1 c.requires.2)

pub overflow_mul-from : goal.overflow_mul-from
overflow_mul-from c = omega (arith, fits (goal.at.overflow_mul-from c).After-min-next, c.loop-done.auto.symbols)

pub overflow_add-from-in-loop-done : goal.overflow_add-from-in-loop-done
overflow_add-from-in-loop-done c =
    omega (arith, fits (goal.at.overflow_add-from-in-loop-done c).After-min-next, c.loop-done.auto.symbols, c.group_words-size.ensures)

pub slice_bounds-change_group-count-in-loop-done : goal.slice_bounds-change_group-count-in-loop-done
slice_bounds-change_group-count-in-loop-done c = (ends (goal.at.slice_bounds-change_group-count-in-loop-done c).After-min-end).0

pub slice_bounds-change_group-start-in-loop-done : goal.slice_bounds-change_group-start-in-loop-done
slice_bounds-change_group-start-in-loop-done c = omega (arith, ends (goal.at.slice_bounds-change_group-start-in-loop-done c).After-min-end)

pub change_group-requires : goal.change_group-requires
change_group-requires c =
    let e = (goal.at.change_group-requires c).After-min-end in
    let n = (goal.at.change_group-requires c).After-min-next in
    let l = (goal.at.change_group-requires c).At-loop-done in
    let t = c.loop-done.invariant in
    let most = chunk_most (carrier l) t (low l) c.loop-done-test.true in
    (omega (arith, long e), omega (arith, long e, most, c.group_words-size.ensures), omega (arith, long e, part_fits (carrier l) t (low l) c.loop-done-test.true c.min-end.result (end_is e) c.min-next.result (next_is n)))

pub overflow_add-i : goal.overflow_add-i
overflow_add-i c = omega (arith, fits (goal.at.overflow_add-i c).After-min-next, c.loop-done.auto.symbols)

pub loop-done-preserved : goal.loop-done-preserved
loop-done-preserved c =
    let e = (goal.at.loop-done-preserved c).After-min-end in
    let n = (goal.at.loop-done-preserved c).After-min-next in
    let l = (goal.at.loop-done-preserved c).At-loop-done in
    let given = rw c.group_words-size.ensures.0 at c.change_group.ensures in
    rw c.group_words-size.ensures.0 (changing_step (carrier l) c.loop-done.invariant (low l) c.loop-done-test.true c.min-end.result (end_is e) c.min-next.result (next_is n) c.change_group.new.group given)

pub returns : goal.returns
returns c = changing_end c.loop-done.invariant (omega (arith, c.loop-done-test.false))
