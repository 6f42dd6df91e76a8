-- `rebuild_accepted` meets its contract: the share is written only where no number is met.
use mathlib.Core.Path.{◌≡◌, refl}
use Prim.Native.Nat.{◌*◌, ◌<◌}
use lib.ListN.{length}
use Rattle.generator.specs.Records.{width}
use Rattle.generator.proofs.Answered.{done_is}
use Rattle.refusals.specs.Accepted.{ListedShares}
use Rattle.recover.proofs.Accepts.{rebuild_accepts}
use Rattle.generator.specs.Answers.{answer_of}
use Rattle.recover.proofs.Tiles.{rebuilt_lanes}
use Rattle.recover.proofs.Listed.rebuild_accepted.Goals as goal
use Rattle.recover.proofs.Listed.rebuild_accepted.Goals.{In_ok-rebuild_fault}

-- what is known where no number was met
accepted : (c : In_ok-rebuild_fault)
    → let v = c.args.self in
    ListedShares v.code.header v.lanes v.nodes.now v.shares.now × (c.args.target < v.code.header.n) × (length c.args.out.now ≡ v.lanes * width v.code.header)
accepted c =
    let v = c.args.self in
    rebuild_accepts v.code.header v.code.sound v.lanes v.nodes.now v.shares.now c.args.target (length c.args.out.now)
    (done_is _ _ c.in_ok-rebuild_fault.ensures)

pub returns : goal.returns
unfolding answer_of
returns c =
    let wide = c.width_of-width.ensures in
    let v = c.args.self in
    let none = done_is _ _ c.in_ok-rebuild_fault.ensures in
    record {
      answered = rw none refl;
      written = rw none (rebuilt_lanes (accepted (goal.at.returns c).In_ok-rebuild_fault).0 c.args.target _ c.rebuild_weights-weights.ensures (rw wide at c.fill.ensures));
    }
