-- `message` meets its contract: a block of one lane.
use mathlib.Core.Path.{◌≡◌, sym, ap, ◌∙◌}
use Prim.Native.Nat.{◌*◌, ◌≤◌}
use native.Mathlib.Nat.{mul_comm, mul-one}
use native.Mathlib.Omega.{arith}
use lib.ListN.{length}
use Rattle.generator.specs.Records.{width}
use Rattle.generator.proofs.Widths.{symbols_fit}
use Rattle.listed_products.proofs.OneLane.{scratch_part, lane_small, message_small, one_listed, one_message}
use Rattle.listed_products.proofs.messages.MessageLists.message.Goals as goal
use Rattle.listed_products.proofs.messages.MessageLists.message.Goals.{After-width_of-w}

-- the lane and the message fit the scratch
lane_fits : (c : After-width_of-w) → c.width_of-w.result.bytes * length c.args.self.nodes.now ≤ 510
lane_fits c = let v = c.args.self in rw c.width_of-w.ensures (lane_small v.code.sound v.listed)

message_fits : (c : After-width_of-w) → c.width_of-w.result.bytes * c.args.self.code.header.k ≤ 510
message_fits c = let v = c.args.self in rw c.width_of-w.ensures (message_small v.code.sound v.listed)

pub slice_bounds-room-end : goal.slice_bounds-room-end
slice_bounds-room-end c = lane_fits (goal.at.slice_bounds-room-end c).After-width_of-w

pub slice_bounds-lane-end : goal.slice_bounds-lane-end
slice_bounds-lane-end c = sym (scratch_part _ (lane_fits (goal.at.slice_bounds-lane-end c).After-width_of-w))

pub slice_bounds-other_room-end : goal.slice_bounds-other_room-end
slice_bounds-other_room-end c = message_fits (goal.at.slice_bounds-other_room-end c).After-width_of-w

pub write_symbols-requires : goal.write_symbols-requires
write_symbols-requires c =
    let v = c.args.self in
    (rw c.width_of-w.ensures (symbols_fit v.code.header v.code.sound c.args.symbols.now c.requires.1), scratch_part _ (lane_fits (goal.at.write_symbols-requires c).After-width_of-w) ∙ mul_comm _ _ ∙ ap (λ n. n * c.width_of-w.result.bytes) (sym c.requires.0))

pub fill-requires : goal.fill-requires
fill-requires c =
    let v = c.args.self in
    (rw (c.write_symbols.ensures, c.width_of-w.ensures) (one_listed v.code.sound v.listed c.args.symbols.now c.requires.0 c.requires.1), scratch_part _ (message_fits (goal.at.fill-requires c).After-width_of-w) ∙ rw c.width_of-w.ensures (sym (mul-one (width v.code.header * v.code.header.k))))

pub returns : goal.returns
returns c =
    let v = c.args.self in
    rw (c.read_symbols.ensures, c.fill.ensures, c.write_symbols.ensures, c.width_of-w.ensures, one_message v.code.sound v.listed c.args.symbols.now c.requires.0 c.requires.1)
