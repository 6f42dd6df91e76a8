-- `Target::weights` meets its contract.
use mathlib.Core.Path.{◌≡◌, ◌∙◌}
use Prim.Native.Nat.{◌≤◌}
use native.Mathlib.Omega.{arith}
use lib.ListN.{length}
use Rattle.lists.proofs.Passing.{passing_most}
use Rattle.traces.specs.Repairs.{sends, senders}
use Rattle.traces.proofs.Claims.{senders_below}
use Rattle.repair_tables.proofs.nodes.Target.weights.Goals as goal
use Rattle.repair_tables.proofs.nodes.Target.weights.Goals.{After-as_slice}

-- the list is the senders, at most 255
listed : (c : After-as_slice) → let t = c.args.self in c.as_slice.result.now ≡ senders t.codec.code.header t.node t.missing.now
unfolding senders
listed c = c.as_slice.ensures.value ∙ c.list_senders-nodes.ensures

few : (c : After-as_slice) → let t = c.args.self in length (senders t.codec.code.header t.node t.missing.now) ≤ 255
unfolding senders
few c =
    let t = c.args.self in
    omega (arith, passing_most t.codec.code.header.n 0 (sends t.node t.missing.now), t.codec.code.sound.byte)

pub list_weights-requires : goal.list_weights-requires
list_weights-requires c =
    rw (listed (goal.at.list_weights-requires c).After-as_slice) (senders_below _ _ _, few (goal.at.list_weights-requires c).After-as_slice)

pub returns : goal.returns
returns c = c.list_weights.ensures ∙ rw (listed (goal.at.returns c).After-as_slice)
