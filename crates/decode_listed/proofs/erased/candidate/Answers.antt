-- `candidate` meets its contract: the lane without the errors that the check sums tell of at the suspects.
use mathlib.Core.Path.{◌≡◌, ap, ◌∙◌}
use mathlib.Core.List.{List}
use Prim.Native.Nat.{ℕ}
use lib.ListN.{length, take}
use Rattle.lists.proofs.Padding.{take_padded}
use Rattle.decode.specs.Inner.Errors.{errors_at}
use Rattle.decode.specs.Inner.Candidates.{SoundLane}
use Rattle.decode.proofs.NodeParts.{sums_symbols}
use Rattle.decode_listed.proofs.SuspectParts.{SuspectParts, suspect_parts}
use Rattle.decode_listed.proofs.erased.candidate.Goals as goal
use Rattle.decode_listed.proofs.erased.candidate.Goals.{Start, After-as_slice-nodes, After-errors-wrong}

-- the lane, as the proofs take it
sound : (c : Start) → SoundLane c.args.lane.rows.code.header c.args.lane.symbols.now
sound c = let a = c.args.lane in record { sound = a.rows.code.sound; long = a.long; below = a.below }

-- what is known once the nodes are found
facts : (c : After-as_slice-nodes) → let a = c.args.lane in SuspectParts a.rows.code.header c.args.lost.now a.symbols.now c.sums-sums.result c.as_slice-nodes.result.now
facts c =
    let a = c.args.lane in
    suspect_parts a.rows.code.header a.symbols.now (sound (goal.at.After-as_slice-nodes c).Start) c.args.lost.now c.requires c.sums-sums.result c.sums-sums.ensures _
    (rw c.as_slice-nodes.ensures.value (rw c.new-codec.ensures at c.suspects-found.ensures))

-- and once the errors are
errors-part : (c : After-errors-wrong)
    → let nodes : List ℕ = c.as_slice-nodes.result.now in
    take (length nodes) c.errors-wrong.result ≡ errors_at c.args.lane.rows.code.header nodes c.sums-sums.result
errors-part c =
    let nodes : List ℕ = c.as_slice-nodes.result.now in
    let is = rw c.new-codec.ensures at c.errors-wrong.ensures in
    ap (take (length nodes)) is ∙ take_padded 255 (length nodes) _ (facts (goal.at.After-errors-wrong c).After-as_slice-nodes).parts.errors_count

pub invariant_of-syndrome : goal.invariant_of-syndrome
invariant_of-syndrome c =
    let a = c.args.lane in
    rw c.new-codec.ensures record { symbols = sums_symbols a.rows.code.header a.symbols.now (sound (goal.at.invariant_of-syndrome c).Start) c.sums-sums.result c.sums-sums.ensures }

pub invariant_of-erased : goal.invariant_of-erased
invariant_of-erased c = record { are = rw c.new-codec.ensures c.requires }

pub removed-requires : goal.removed-requires
removed-requires c =
    let f = (facts (goal.at.removed-requires c).After-as_slice-nodes).parts in
    rw (c.new-codec.result.same, c.new-codec.ensures, errors-part (goal.at.removed-requires c).After-errors-wrong) (f.lane_symbols, f.errors_symbols, f.nodes_low, f.errors_count)

pub returns : goal.returns
returns c =
    let f = facts (goal.at.returns c).After-as_slice-nodes in
    let is = rw (c.new-codec.result.same, c.new-codec.ensures) at c.removed.ensures in
    f.candidate _ (is ∙ rw (errors-part (goal.at.returns c).After-errors-wrong))
