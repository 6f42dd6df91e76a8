-- `set_lane` meets its contract: the lane is decoded, and the message of its symbols set right is the nearest.
use mathlib.Core.Path.{◌≡◌, sym, ◌∙◌}
use mathlib.Core.Bool.{true≢false}
use mathlib.Core.List.{List}
use Prim.Native.Nat.{ℕ, ◌≤◌}
use native.Mathlib.Omega.{arith}
use lib.ListN.{length, take, length-map}
use Rattle.lists.proofs.Padding.{take_padded}
use Rattle.generator.specs.Codewords.{node_of}
use Rattle.generator.specs.Claims.{at_nodes}
use Rattle.near_message.specs.Nearest.{near_message}
use Rattle.near_message.proofs.Messages.{near_symbols_below}
use Rattle.listed_products.proofs.First.{few, nodes_byte}
use Rattle.listed_products.proofs.Products.{lane_long}
use Rattle.correct_listed.specs.Inner.Lanes.{lane_listed}
use Rattle.correct_listed.proofs.Lanes.{lent_long, lent_size, is_listed, right_message, near_long, near_fits}
use Rattle.correct_listed.proofs.lane.Marked.set_lane.Goals as goal
use Rattle.correct_listed.proofs.lane.Marked.set_lane.Goals.{Start, After-lane-held, In-Some, After-message-found}

-- lane t
abbrev lane : Start → List ℕ
lane c = let m = c.args.self in lane_listed m.rows.code.header m.nodes.now m.lanes m.shares.now c.args.t

long : (c : Start) → length (lane c) ≡ length c.args.self.nodes.now
long c = let m = c.args.self in lane_long m.rows.code.sound m.listed m.symbols c.args.t

-- as it is lent
held_is : (c : After-lane-held) → take (length c.args.self.nodes.now) c.lane-held.result ≡ lane (goal.at.After-lane-held c).Start
held_is c = rw c.lane-held.ensures (take_padded 255 _ _ (long (goal.at.After-lane-held c).Start))

-- its symbols set right
abbrev right : Start → List ℕ
right c = let m = c.args.self in at_nodes m.rows.code.header (near_message m.rows.code.header m.nodes.now (lane c)) m.nodes.now

right_long : (c : Start) → length (right c) ≡ length c.args.self.nodes.now
right_long c = let m = c.args.self in length-map m.nodes.now (node_of m.rows.code.header (near_message m.rows.code.header m.nodes.now (lane c)))

right_is : (c : In-Some) → take (length c.args.self.nodes.now) c.in-Some.right ≡ right (goal.at.In-Some c).Start
right_is c =
    let is = held_is (goal.at.In-Some c).After-lane-held in
    let found = rw is at c.in-Some.ensures.1 in
    rw found (take_padded 255 _ _ (right_long (goal.at.In-Some c).Start))

-- their message
found_is : (c : After-message-found) → let m = c.args.self in take m.rows.code.header.k c.message-found.result ≡ near_message m.rows.code.header m.nodes.now (lane (goal.at.After-message-found c).Start)
found_is c =
    let m = c.args.self in
    let s = m.rows.code.sound in
    let listed = is_listed s m.listed m.symbols c.args.t c.requires.0 in
    rw (c.message-found.ensures, c.requires.2, c.requires.3, right_is (goal.at.After-message-found c).In-Some, right_message s m.listed listed c.requires.1) (take_padded 255 _ _ (near_long s m.listed listed c.requires.1))

-- arrays as they are lent
held_lent : (c : After-lane-held) → (length c.args.self.nodes.now ≤ length c.lane-held.result) × (length c.args.self.nodes.now ≡ length (take (length c.args.self.nodes.now) c.lane-held.result))
held_lent c =
    let m = c.args.self in
    let size = long (goal.at.After-lane-held c).Start in
    let byte = nodes_byte m.rows.code.sound m.listed in
    (lent_long (lane (goal.at.After-lane-held c).Start) c.lane-held.ensures size byte, lent_size (lane (goal.at.After-lane-held c).Start) c.lane-held.ensures size byte)

right_lent : (c : In-Some) → (length c.args.self.nodes.now ≤ length c.in-Some.right) × (length c.args.self.nodes.now ≡ length (take (length c.args.self.nodes.now) c.in-Some.right))
right_lent c =
    let m = c.args.self in
    let is = held_is (goal.at.In-Some c).After-lane-held in
    let found = rw is at c.in-Some.ensures.1 in
    let size = right_long (goal.at.In-Some c).Start in
    let byte = nodes_byte m.rows.code.sound m.listed in
    (lent_long (right (goal.at.In-Some c).Start) found size byte, lent_size (right (goal.at.In-Some c).Start) found size byte)

pub slice_bounds-held-end-in-Some : goal.slice_bounds-held-end-in-Some
slice_bounds-held-end-in-Some c = (held_lent (goal.at.slice_bounds-held-end-in-Some c).After-lane-held).0

pub slice_bounds-count_unlike-end : goal.slice_bounds-count_unlike-end
slice_bounds-count_unlike-end c = (held_lent (goal.at.slice_bounds-count_unlike-end c).After-lane-held).1

pub slice_bounds-right-end-in-Some : goal.slice_bounds-right-end-in-Some
slice_bounds-right-end-in-Some c = (right_lent (goal.at.slice_bounds-right-end-in-Some c).In-Some).0

pub slice_bounds-count_unlike-end-in-Some : goal.slice_bounds-count_unlike-end-in-Some
slice_bounds-count_unlike-end-in-Some c = (right_lent (goal.at.slice_bounds-count_unlike-end-in-Some c).In-Some).1

pub slice_bounds-right-end-in-Some-2 : goal.slice_bounds-right-end-in-Some-2
slice_bounds-right-end-in-Some-2 c = (right_lent (goal.at.slice_bounds-right-end-in-Some-2 c).In-Some).0

pub slice_bounds-message-end : goal.slice_bounds-message-end
slice_bounds-message-end c = (right_lent (goal.at.slice_bounds-message-end c).In-Some).1

pub right-requires : goal.right-requires
right-requires c = (c.requires.0, held_is (goal.at.right-requires c).After-lane-held)

pub count_unlike-requires : goal.count_unlike-requires
count_unlike-requires c =
    let s = (goal.at.count_unlike-requires c).Start in
    (rw (held_is (goal.at.count_unlike-requires c).After-lane-held) (long s ∙ sym c.requires.5), rw (right_is (goal.at.count_unlike-requires c).In-Some) (right_long s ∙ sym c.requires.5), c.requires.6)

pub message-found-requires : goal.message-found-requires
message-found-requires c =
    let m = c.args.self in
    let h = m.rows.code.header in
    let sound = m.rows.code.sound in
    let s = (goal.at.message-found-requires c).Start in
    let ys = lane s in
    rw (right_is (goal.at.message-found-requires c).In-Some, c.requires.2, c.requires.3)
    (right_long s, near_symbols_below h sound m.nodes.now ys (is_listed sound m.listed m.symbols c.args.t c.requires.0) c.requires.1)

pub put_message-requires : goal.put_message-requires
put_message-requires c =
    let m = c.args.self in
    let s = m.rows.code.sound in
    let listed = is_listed s m.listed m.symbols c.args.t c.requires.0 in
    let size = near_long s m.listed listed c.requires.1 in
    rw (found_is (goal.at.put_message-requires c).After-message-found, c.width_of.ensures)
    (c.requires.0, m.symbols.few_lanes, omega (arith, size, few s m.listed), near_fits s m.listed listed c.requires.1, rw size c.requires.4)

pub returns-in-None : goal.returns-in-None
returns-in-None c =
    absurd (true≢false (sym c.requires.1 ∙ rw (held_is (goal.at.returns-in-None c).After-lane-held) at c.in-None.ensures))

pub returns-in-Some : goal.returns-in-Some
returns-in-Some c =
    let m = c.args.self in
    let s = m.rows.code.sound in
    let listed = is_listed s m.listed m.symbols c.args.t c.requires.0 in
    let size = near_long s m.listed listed c.requires.1 in
    (rw (c.put_message.ensures, found_is (goal.at.returns-in-Some c).After-message-found, c.width_of.ensures, size), rw (c.count_unlike.ensures, held_is (goal.at.returns-in-Some c).After-lane-held, right_is (goal.at.returns-in-Some c).In-Some))
