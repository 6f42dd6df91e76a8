-- `update_accepted` meets its contract: what it is given is judged first, then its lane, and then the lane is rewritten.
use Prim.Native.Nat.{◌<◌}
use mathlib.Core.Path.{◌≡◌, sym}
use Rattle.layout.specs.Layout.{share_layout}
use Rattle.generator.specs.Records.{size}
use Rattle.generator.proofs.Answered.{exit, done_is, refused_is}
use Rattle.update.specs.Promise.{input_fault}
use Rattle.refusals.specs.Accepted.{UpdatableLane}
use Rattle.update.proofs.Accepts.{input_accepts, update_refuses}
use Rattle.update.proofs.Answering.{altered_says}
use Rattle.update.proofs.Judging.{input_met, lane_met}
use Rattle.update.proofs.update_accepted.Goals as goal
use Rattle.update.proofs.update_accepted.Goals.{In_ok-input_fault}

-- no number of what is given turns the update away
given : (c : In_ok-input_fault)
    → let a = c.args in
    let u = a.update in
    input_fault share_layout a.code.header u.lanes u.which u.lane u.old u.new a.shares.now ≡ 0
given c = done_is _ _ c.in_ok-input_fault.ensures

ready : (c : In_ok-input_fault)
    → let a = c.args in
    let u = a.update in
    UpdatableLane a.code.header u.lanes u.which u.lane a.shares.now × (u.old < size a.code.header) × (u.new < size a.code.header)
ready c = input_accepts _ c.args.code.sound _ _ _ _ _ _ (given c)

pub returns-in_err-input_fault : goal.returns-in_err-input_fault
returns-in_err-input_fault c =
    let (same, some) = refused_is _ _ _ c.in_err-input_fault.ensures in
    rw (exit _ c.from_residual.ensures.1, input_met _ _ _ _ _ _ _ _ same some) (update_refuses _ _ some _ _ _ _ _ _)

pub judge_lane-requires : goal.judge_lane-requires
judge_lane-requires c = rw c.new-generator.ensures (ready (goal.at.judge_lane-requires c).In_ok-input_fault).0

pub returns-in_err-judge_lane : goal.returns-in_err-judge_lane
returns-in_err-judge_lane c =
    let none = given (goal.at.returns-in_err-judge_lane c).In_ok-input_fault in
    let (same, some) = refused_is _ _ _ (rw c.new-generator.ensures at c.in_err-judge_lane.ensures) in
    rw (exit _ c.from_residual-in_err-judge_lane.ensures.1, lane_met _ _ _ _ _ _ _ _ none same) (update_refuses _ _ some _ _ _ _ _ _)

pub rewrite_lane-requires : goal.rewrite_lane-requires
rewrite_lane-requires c = rw c.new-generator.ensures (ready (goal.at.rewrite_lane-requires c).In_ok-input_fault)

pub returns : goal.returns
returns c =
    let none = given (goal.at.returns c).In_ok-input_fault in
    let fresh = done_is _ _ (rw c.new-generator.ensures at c.in_ok-judge_lane.ensures) in
    let (done, counted) = rw c.new-generator.ensures at c.rewrite_lane.ensures in
    altered_says _ _ _ _ _ _ _ _ _ _ (lane_met _ _ _ _ _ _ _ _ none (sym fresh)) done counted
