-- `judge` meets its contract: a lane's number is that of the run where the lanes before it have none.
use Rattle.generator.proofs.Answered.{exit}
use Rattle.update_lanes.proofs.Judging.{ready_lane, run_stopped, run_goes_on, run_ended}
use Rattle.update_lanes.proofs.run.Run.judge.Goals as goal

pub judge_lane-requires : goal.judge_lane-requires
judge_lane-requires c = rw c.lane.ensures (ready_lane c.requires (rw c.count-count.ensures at c.loop-i-test.true))

pub returns-in_err-judge_lane : goal.returns-in_err-judge_lane
returns-in_err-judge_lane c =
    rw (exit _ c.from_residual.ensures.1) (run_stopped c.requires _ c.count-count.ensures c.loop-i.invariant c.loop-i-test.true _ c.width_of-w.ensures _ (rw c.lane.ensures at c.in_err-judge_lane.ensures))

pub loop-i-preserved : goal.loop-i-preserved
loop-i-preserved c =
    run_goes_on c.requires _ c.count-count.ensures c.loop-i.invariant c.loop-i-test.true _ c.width_of-w.ensures (rw c.lane.ensures at c.in_ok-judge_lane.ensures)

pub returns : goal.returns
returns c = run_ended c.requires _ c.count-count.ensures c.loop-i.invariant c.loop-i-test.false
