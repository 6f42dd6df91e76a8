-- `Digits::pack_plane` meets its contract.
use borrow.Author.Rules.{rules}
use borrow.Author.Tests.{eqb-true, eqb-false}
use mathlib.Core.Path.{◌≡◌, sym, ◌∙◌}
use mathlib.Core.List.{[]}
use Prim.Native.Nat.{◌*◌, ◌/◌, ◌<◌}
use native.Mathlib.Omega.{arith}
use lib.ListN.{length, get_or, length-drop}
use lib.Seq.{get_or-drop}
use Rattle.kernel.proofs.Chunks.{chunk_element}
use Rattle.kernel.proofs.Filling.{changed_none, changed_lane, changed_all}
use Rattle.repair.specs.Packing.{plane_size, byte_from}
use Rattle.repair.specs.Inner.Lanes.{lane_bit}
use Rattle.repair.proofs.Digits.{bits_low, byte_lanes}
use Rattle.repair.proofs.packing.Digits.pack_plane.Goals as goal
use Rattle.repair.proofs.packing.Digits.pack_plane.Goals.{After-byte, After-byte-then-not-is_empty}

-- the byte of eight lanes, and of the lanes after the last eight
eight : (c : After-byte) → c.byte.result ≡ byte_from 8 (lane_bit c.args.bit.place c.args.self.table.now c.args.self.share.now) (c.loop-c.c * 8)
eight c =
    let share = c.args.self.share.now in
    let i = c.loop-c.c in
    let long : length (get_or c.as_chunks.result.0.now i []) ≡ 8 = search rules in
    let inside : i < length share / 8 = omega (arith, c.as_chunks.ensures.front_len) in
    c.byte.ensures ∙ byte_lanes _ _ _ c.args.self.whole c.bits-bits.ensures share _ (i * 8) (λ z h. rw c.as_chunks.ensures.front (chunk_element 8 _ i z share inside h)) (λ z h. (λ l. omega arith, λ l. omega (arith, long)))

last : (c : After-byte-then-not-is_empty) → c.byte-then-not-is_empty.result ≡ byte_from 8 (lane_bit c.args.bit.place c.args.self.table.now c.args.self.share.now) (length c.as_chunks.result.0.now * 8)
last c =
    let share = c.args.self.share.now in
    let start = length share / 8 * 8 in
    let long = length-drop start share in
    rw (c.byte-then-not-is_empty.ensures, c.as_chunks.ensures.back, c.as_chunks.ensures.front_len)
    (byte_lanes _ _ _ c.args.self.whole c.bits-bits.ensures share _ start (λ z h. get_or-drop start share z 0) (λ z h. (λ l. omega (arith, long), λ l. omega (arith, long))))

pub loop-c-init : goal.loop-c-init
loop-c-init c = changed_none _ _

pub bounds-out-c : goal.bounds-out-c
unfolding plane_size
bounds-out-c c = omega (arith, c.requires.1, c.loop-c.auto.out, c.as_chunks.ensures.front_len)

pub byte-requires : goal.byte-requires
byte-requires c = (search rules, bits_low _ _ _ c.args.self.whole c.bits-bits.ensures)

pub byte-requires-then-not-is_empty : goal.byte-requires-then-not-is_empty
byte-requires-then-not-is_empty c = (omega (arith, c.as_chunks.ensures.back_len), bits_low _ _ _ c.args.self.whole c.bits-bits.ensures)

pub loop-c-preserved : goal.loop-c-preserved
unfolding plane_size
loop-c-preserved c = rw (eight (goal.at.loop-c-preserved c).After-byte) (changed_lane _ _ c.loop-c.invariant (omega (arith, c.requires.1, c.as_chunks.ensures.front_len)))

pub bounds-out-eights : goal.bounds-out-eights
unfolding plane_size
bounds-out-eights c =
    let some = eqb-false _ _ (sym c.is_empty.ensures ∙ c.if-not-is_empty.true) in
    omega (arith, some, c.requires.1, c.loop-c.auto.out, c.as_chunks.ensures.front_len, c.as_chunks.ensures.back_len)

pub returns-then-not-is_empty : goal.returns-then-not-is_empty
unfolding plane_size
returns-then-not-is_empty c =
    let some = eqb-false _ _ (sym c.is_empty.ensures ∙ c.if-not-is_empty.true) in
    let all : c.loop-c.c ≡ length c.as_chunks.result.0.now = omega arith in
    rw (last (goal.at.returns-then-not-is_empty c).After-byte-then-not-is_empty)
    (changed_all _ _ (changed_lane _ _ (rw all at c.loop-c.invariant) (omega (arith, some, c.requires.1, c.as_chunks.ensures.front_len, c.as_chunks.ensures.back_len))) (omega (arith, c.requires.1, c.as_chunks.ensures.front_len, c.as_chunks.ensures.back_len)))

pub returns-else-not-is_empty : goal.returns-else-not-is_empty
unfolding plane_size
returns-else-not-is_empty c =
    let none = eqb-true _ _ (sym c.is_empty.ensures ∙ c.if-not-is_empty.false) in
    changed_all _ _ c.loop-c.invariant (omega (arith, none, c.requires.1, c.as_chunks.ensures.front_len, c.as_chunks.ensures.back_len))
