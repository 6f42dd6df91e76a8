-- `is_near` meets its contract: a lane that is marked 0 agrees, and any other is decoded.
use mathlib.Core.Path.{◌≡◌, sym, ◌∙◌}
use Prim.Native.Nat.{◌≤◌}
use lib.ListN.{length, take}
use Rattle.listed_products.proofs.First.{nodes_byte}
use Rattle.listed_products.proofs.Products.{lane_long}
use Rattle.correct_listed.specs.Inner.Lanes.{lane_listed}
use Rattle.correct_listed.proofs.Lanes.{lent_long, lent_is, lent_size, found_near}
use Rattle.correct_listed.proofs.SetLanes.{marked_near}
use Rattle.correct_listed.proofs.lane.Marked.is_near.Goals as goal
use Rattle.correct_listed.proofs.lane.Marked.is_near.Goals.{After-lane-symbols}

-- the lane as it is lent
lent : (c : After-lane-symbols) → let m = c.args.self in let r = length m.nodes.now in (r ≤ length c.lane-symbols.result) × (take r c.lane-symbols.result ≡ lane_listed m.rows.code.header m.nodes.now m.lanes m.shares.now c.args.t) × (r ≡ length (take r c.lane-symbols.result))
lent c =
    let m = c.args.self in
    let s = m.rows.code.sound in
    let long = lane_long s m.listed m.symbols c.args.t in
    let byte = nodes_byte s m.listed in
    let ys = lane_listed m.rows.code.header m.nodes.now m.lanes m.shares.now c.args.t in
    (lent_long ys c.lane-symbols.ensures long byte, lent_is ys c.lane-symbols.ensures long byte, lent_size ys c.lane-symbols.ensures long byte)

pub returns-then-self-t-eq0 : goal.returns-then-self-t-eq0
returns-then-self-t-eq0 c =
    let m = c.args.self in
    sym (marked_near m.rows.code.header m.nodes.now m.lanes m.shares.now m.rows.code.sound m.listed m.symbols c.args.t c.requires m.agree c.if-self-t-eq0.true)

pub slice_bounds-symbols-end : goal.slice_bounds-symbols-end
slice_bounds-symbols-end c = (lent (goal.at.slice_bounds-symbols-end c).After-lane-symbols).0

pub slice_bounds-right-end : goal.slice_bounds-right-end
slice_bounds-right-end c = (lent (goal.at.slice_bounds-right-end c).After-lane-symbols).2

pub right-requires : goal.right-requires
right-requires c = (c.requires, (lent (goal.at.right-requires c).After-lane-symbols).1)

pub returns : goal.returns
returns c = c.is_some.ensures ∙ found_near _ _ _ (rw (lent (goal.at.returns c).After-lane-symbols).1 at c.right.ensures)
