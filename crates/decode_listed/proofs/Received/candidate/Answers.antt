-- `candidate` meets its contract: the candidate of the lane that the listed symbols make.
use mathlib.Core.Path.{◌≡◌, ap, ◌∙◌}
use lib.ListN.{take}
use Rattle.lists.proofs.Padding.{take_padded}
use Rattle.generator.proofs.Words.{encoding_size, encoding_symbols}
use Rattle.near_message.specs.Inner.Listed.{unlisted, placed_lane}
use Rattle.near_message.proofs.Messages.{Placed, lane_placed, unlisted_low, unlisted_room, same_near}
use Rattle.decode_listed.specs.Inner.Suspects.{AreLost}
use Rattle.decode_listed.specs.Inner.Candidates.{LaneCandidate}
use Rattle.decode_listed.proofs.NodeLists.{nodes_bytes, placed_is}
use Rattle.decode_listed.proofs.Received.candidate.Goals as goal
use Rattle.decode_listed.proofs.Received.candidate.Goals.{Start, After-put-held}

-- the lane of the listed symbols
placed : (c : Start) → let a = c.args.self in Placed a.rows.code.header a.nodes.now a.symbols.now (placed_lane a.rows.code.header a.nodes.now a.symbols.now)
placed c = let a = c.args.self in lane_placed a.rows.code.header a.rows.code.sound a.nodes.now a.symbols.now a.listed

lane-part : (c : After-put-held) → let a = c.args.self in take a.rows.code.header.n c.put-held.result ≡ placed_lane a.rows.code.header a.nodes.now a.symbols.now
lane-part c =
    let a = c.args.self in
    ap (take a.rows.code.header.n) (c.put-held.ensures ∙ placed_is a.rows.code.header a.rows.code.sound a.nodes.now a.symbols.now a.listed)
    ∙ take_padded 255 a.rows.code.header.n _ (placed (goal.at.After-put-held c).Start).long

pub put-held-requires : goal.put-held-requires
put-held-requires c = let a = c.args.self in (a.listed.long, nodes_bytes a.rows.code.header a.rows.code.sound a.nodes.now a.symbols.now a.listed)

pub invariant_of-lane : goal.invariant_of-lane
invariant_of-lane c =
    let l = placed (goal.at.invariant_of-lane c).Start in rw (lane-part (goal.at.invariant_of-lane c).After-put-held) record { long = l.long; below = l.below }

pub candidate-requires : goal.candidate-requires
unfolding unlisted
candidate-requires c =
    let a = c.args.self in
    let h = a.rows.code.header in
    let are : AreLost h (unlisted h a.nodes.now) = record { low = unlisted_low h a.rows.code.sound a.nodes.now a.symbols.now a.listed; room = unlisted_room h a.rows.code.sound a.nodes.now a.symbols.now a.listed } in
    rw (c.as_slice.ensures.value, c.unlisted-lost.ensures) are

pub returns : goal.returns
unfolding unlisted
returns c =
    let a = c.args.self in
    let h = a.rows.code.header in
    let s = a.rows.code.sound in
    let k : LaneCandidate h (unlisted h a.nodes.now) (placed_lane h a.nodes.now a.symbols.now) c.candidate.result = rw (c.as_slice.ensures.value, c.unlisted-lost.ensures, lane-part (goal.at.returns c).After-put-held) at c.candidate.ensures in
    record {
      word = k.word;
      array_is = k.array_is;
      long = k.long;
      below = k.below;
      only = λ ms m near. k.only _ (encoding_size h s ms) (encoding_symbols h s ms m) (same_near h s a.nodes.now a.symbols.now a.listed _ (placed (goal.at.returns c).Start) ms m ∙ near);
    }
