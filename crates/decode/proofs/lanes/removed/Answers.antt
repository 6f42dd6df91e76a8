-- `removed` meets its contract. Invariant: with the errors at the nodes that are to come it is the lane without all of them.
use mathlib.Core.Path.{◌≡◌, refl, sym, ◌∙◌}
use Prim.Native.Nat.{◌<◌}
use native.Mathlib.Omega.{arith}
use lib.ListN.{length, get_or, length-set}
use Rattle.std.proofs.lemmas.List.{length_push}
use Rattle.std.proofs.lemmas.Slice.Zip.{zip_turn, zip_end}
use Rattle.lists.proofs.Numbers.{below_at, below_get_or, below_set}
use Rattle.lists.proofs.Padding.{copied_is, length_padded, below_padded}
use Rattle.field.proofs.FieldOf.{size_pos}
use Rattle.field.proofs.KindLaws.{usable_field}
use Rattle.decode.proofs.Removing.{removed_next, removed_end, removed_padded}
use Rattle.decode.proofs.lanes.removed.Goals as goal
use Rattle.decode.proofs.lanes.removed.Goals.{In-Some}

-- the node and the error of this turn stand at one place of the two lists
turn : (c : In-Some) →
    let a = c.args in
    let i = length c.loop-node.yielded in
    (i < length a.nodes.now) × (i < length a.errors.now) × (c.in-Some.field-0-0.now ≡ get_or a.nodes.now i 0) × (c.in-Some.field-0-1.now ≡ get_or a.errors.now i 0)
turn c =
    let a = c.args in
    let is = zip_turn a.nodes.now a.errors.now c.loop-node.yielded _ c.loop-node.node-iterator c.next.new.self c.next.result (search) (search) c.loop-node.yielded_by _ c.in-Some.is c.next.ensures.steps in
    (is.0, is.1, is.2 0, is.3 0)

-- the node lies in the lane
node : (c : In-Some) → c.in-Some.field-0-0.now < 255
node c =
    let s = c.requires in
    let t = turn c in rw t.2 (omega (arith, below_at _ c.args.nodes.now s.2 (length c.loop-node.yielded) t.0, s.0.short))

pub loop-node-init : goal.loop-node-init
loop-node-init c =
    let s = c.requires in
    rw (c.copy_from_slice.ensures.after, copied_is 255 c.args.lane.now)
    (length_padded 255 _ s.0.short, below_padded _ 255 _ (size_pos _ (usable_field _ c.args.field.usable)) s.0.below, refl)

pub bounds-out-j : goal.bounds-out-j
bounds-out-j c = omega (arith, node (goal.at.bounds-out-j c).In-Some, c.loop-node.invariant.0)

pub sub-requires : goal.sub-requires
sub-requires c =
    let s = c.requires in
    let v = usable_field _ c.args.field.usable in
    let t = turn (goal.at.sub-requires c).In-Some in
    (below_get_or _ c.loop-node.out (size_pos _ v) c.loop-node.invariant.1 _, rw t.3 (below_at _ c.args.errors.now s.1.below _ t.1))

pub bounds-out-j-in-loop-node : goal.bounds-out-j-in-loop-node
bounds-out-j-in-loop-node c =
    omega (arith, node (goal.at.bounds-out-j-in-loop-node c).In-Some, c.loop-node.invariant.0)

pub loop-node-preserved : goal.loop-node-preserved
loop-node-preserved c =
    let l = c.loop-node in
    let t = turn (goal.at.loop-node-preserved c).In-Some in
    let step = removed_next _ c.args.nodes.now c.args.errors.now l.out (length l.yielded) t.0 t.1 in (
      length-set l.out _ _ ∙ l.invariant.0,
      below_set _ l.out _ _ c.sub.ensures.symbol l.invariant.1,
      rw (length_push l.yielded (c.in-Some.field-0-0, c.in-Some.field-0-1), c.sub.ensures.is, t.2, t.3) (sym step ∙ l.invariant.2),
    )

pub returns : goal.returns
returns c =
    let l = c.loop-node in
    let a = c.args in
    let end = zip_end a.nodes.now a.errors.now l.yielded _ l.node-iterator c.next.new.self c.next.result (search) (search) l.yielded_by c.in-None.is c.next.ensures.steps in
    sym (removed_end _ a.nodes.now a.errors.now l.out (length l.yielded) (omega (arith, end, c.requires.3))) ∙ l.invariant.2 ∙ removed_padded _ 255 a.nodes.now a.errors.now a.lane.now c.requires.2
