-- `put` meets its contract. Invariant: with the symbols at the nodes that are to come it is the array with all of them.
use mathlib.Core.Path.{◌≡◌, refl, sym, ◌∙◌}
use Prim.Native.Nat.{ℕ, ◌<◌}
use native.Mathlib.Omega.{arith}
use lib.ListN.{length, get_or, length-set, length-replicate}
use Rattle.std.proofs.lemmas.List.{length_push}
use Rattle.std.proofs.lemmas.Slice.Zip.{zip_turn, zip_end}
use Rattle.lists.specs.Padded.{zeros}
use Rattle.lists.proofs.Numbers.{below_at}
use Rattle.decode_listed.proofs.NodeLists.{put_next, put_end}
use Rattle.decode_listed.proofs.nodes.put.Goals as goal
use Rattle.decode_listed.proofs.nodes.put.Goals.{In-Some}

-- the node and the symbol of this turn stand at one place of the two lists
turn : (c : In-Some) →
    let a = c.args in
    let i = length c.loop-node.yielded in
    (i < length a.nodes.now) × (i < length a.symbols.now) × (c.in-Some.field-0-0.now ≡ get_or a.nodes.now i 0) × (c.in-Some.field-0-1.now ≡ get_or a.symbols.now i 0)
turn c =
    let a = c.args in
    let is = zip_turn a.nodes.now a.symbols.now c.loop-node.yielded _ c.loop-node.node-iterator c.next.new.self c.next.result (search) (search) c.loop-node.yielded_by _ c.in-Some.is c.next.ensures.steps in
    (is.0, is.1, is.2 0, is.3 0)

pub loop-node-init : goal.loop-node-init
unfolding zeros
loop-node-init c = (length-replicate {A = ℕ} 255 0, refl)

pub bounds-out-node : goal.bounds-out-node
bounds-out-node c =
    let t = turn (goal.at.bounds-out-node c).In-Some in
    rw t.2 (omega (arith, below_at _ c.args.nodes.now c.requires.1 (length c.loop-node.yielded) t.0, c.loop-node.invariant.0))

pub loop-node-preserved : goal.loop-node-preserved
loop-node-preserved c =
    let l = c.loop-node in
    let t = turn (goal.at.loop-node-preserved c).In-Some in
    let step = put_next c.args.nodes.now c.args.symbols.now l.out (length l.yielded) t.0 t.1 in
    (length-set l.out _ _ ∙ l.invariant.0, rw (length_push l.yielded (c.in-Some.field-0-0, c.in-Some.field-0-1), t.2, t.3) (sym step ∙ l.invariant.1))

pub returns : goal.returns
returns c =
    let l = c.loop-node in
    let a = c.args in
    let end = zip_end a.nodes.now a.symbols.now l.yielded _ l.node-iterator c.next.new.self c.next.result (search) (search) l.yielded_by c.in-None.is c.next.ensures.steps in
    sym (put_end a.nodes.now a.symbols.now l.out (length l.yielded) (omega (arith, end, c.requires.0))) ∙ l.invariant.1
