-- `shares_bad` meets its contract. Invariant: the answer for the buffer is the answer for the lanes from `lane` on.
use Prim.Native.Nat.{ℕ, ◌+◌, ◌*◌, ◌≤◌}
use mathlib.Core.Path.{◌≡◌, sym, ap, ◌∙◌}
use native.Mathlib.Nat.{mul_comm, mul_assoc, mul-le-mul, le_refl}
use lib.ListN.{length}
use Rattle.lists.proofs.Rows.{row_after, row_inside}
use Rattle.generator.specs.Records.{width}
use Rattle.refusals.proofs.Walks.{part_good, part_bad, parts_end}
use Rattle.refusals.proofs.field_symbols.shares_bad.Goals as goal
use Rattle.refusals.proofs.field_symbols.shares_bad.Goals.{After-width_of-w, In-loop-lane}

-- the bytes of the lanes
lanes_of : (nodes lanes w : ℕ) → nodes * lanes * w ≡ lanes * (nodes * w)
lanes_of nodes lanes w = ap (λ (x : ℕ). x * w) (mul_comm nodes lanes) ∙ mul_assoc lanes nodes w

-- the buffer has so many
long : (c : After-width_of-w) → let a = c.args in length a.shares.now ≡ a.lanes * (a.nodes * c.width_of-w.result.bytes)
long c =
    c.requires.1 ∙ ap (λ (x : ℕ). c.args.nodes * c.args.lanes * x) (sym c.width_of-w.ensures) ∙ lanes_of c.args.nodes c.args.lanes c.width_of-w.result.bytes

-- a lane lies within the buffer
lane_in : (c : In-loop-lane) → let a = c.args in let size = a.nodes * c.width_of-w.result.bytes in c.loop-lane.lane * size + size ≤ length a.shares.now
lane_in c =
    let a = c.args in
    rw (long (goal.at.In-loop-lane c).After-width_of-w) (row_inside a.lanes c.loop-lane.lane (a.nodes * c.width_of-w.result.bytes) c.loop-lane-test.true)

-- a lane has a symbol for each node
size_is : (c : After-width_of-w) → let a = c.args in a.nodes * c.width_of-w.result.bytes ≡ a.nodes * width a.h
size_is c = ap (λ (x : ℕ). c.args.nodes * x) c.width_of-w.ensures

pub returns-then-symbols_bad : goal.returns-then-symbols_bad
returns-then-symbols_bad c =
    let a = c.args in
    let size = a.nodes * c.width_of-w.result.bytes in
    sym (c.loop-lane.invariant ∙ part_bad _ a.shares.now (c.loop-lane.lane * size) a.nodes size (size_is (goal.at.returns-then-symbols_bad c).After-width_of-w) (lane_in (goal.at.returns-then-symbols_bad c).In-loop-lane) (sym c.symbols_bad.ensures ∙ c.if-symbols_bad.true))

pub loop-lane-preserved : goal.loop-lane-preserved
loop-lane-preserved c =
    let a = c.args in
    let size = a.nodes * c.width_of-w.result.bytes in
    c.loop-lane.invariant ∙ rw row_after (part_good _ a.shares.now (c.loop-lane.lane * size) a.nodes size (size_is (goal.at.loop-lane-preserved c).After-width_of-w) (lane_in (goal.at.loop-lane-preserved c).In-loop-lane) (sym c.symbols_bad.ensures ∙ c.if-symbols_bad.false))

pub returns : goal.returns
returns c =
    let a = c.args in
    sym (c.loop-lane.invariant ∙ parts_end _ _ (c.loop-lane.lane * (a.nodes * c.width_of-w.result.bytes)) (rw (long (goal.at.returns c).After-width_of-w) (mul-le-mul c.loop-lane-test.false (le_refl _))))
