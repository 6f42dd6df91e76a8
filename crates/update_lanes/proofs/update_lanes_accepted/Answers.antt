-- `update_lanes_accepted` meets its contract: what it is given is judged first, then the lanes of the run, and then these are rewritten.
use mathlib.Core.Path.{◌≡◌, sym}
use Rattle.generator.proofs.Answered.{exit, done_is, refused_is}
use Rattle.update_lanes.specs.Promise.{run_input_fault}
use Rattle.update_lanes.specs.Inner.Ready.{UpdatableRun}
use Rattle.update_lanes.proofs.Accepts.{run_input_accepts, run_refuses}
use Rattle.update_lanes.proofs.Answering.{run_met, run_judged, run_says}
use Rattle.update_lanes.proofs.update_lanes_accepted.Goals as goal
use Rattle.update_lanes.proofs.update_lanes_accepted.Goals.{In_ok-input_fault}

-- no number of what is given turns the run away
given : (c : In_ok-input_fault)
    → let a = c.args in
    let u = a.run in
    run_input_fault a.code.header u.lanes u.which u.first u.old.now u.new.now a.shares.now ≡ 0
given c = done_is _ _ c.in_ok-input_fault.ensures

ready : (c : In_ok-input_fault)
    → let a = c.args in
    let u = a.run in
    UpdatableRun a.code.header u.lanes u.which u.first u.old.now u.new.now a.shares.now
ready c = run_input_accepts _ c.args.code.sound _ _ _ _ _ _ (given c)

pub returns-in_err-input_fault : goal.returns-in_err-input_fault
returns-in_err-input_fault c =
    let (same, some) = refused_is _ _ _ c.in_err-input_fault.ensures in
    rw (exit _ c.from_residual.ensures.1, run_met _ _ _ _ _ _ _ _ same some) (run_refuses _ _ some _ _ _ _ _ _)

pub judge-requires : goal.judge-requires
judge-requires c = rw c.new-generator.ensures (ready (goal.at.judge-requires c).In_ok-input_fault)

pub returns-in_err-judge : goal.returns-in_err-judge
returns-in_err-judge c =
    let none = given (goal.at.returns-in_err-judge c).In_ok-input_fault in
    let (same, some) = refused_is _ _ _ (rw c.new-generator.ensures at c.in_err-judge.ensures) in
    rw (exit _ c.from_residual-in_err-judge.ensures.1, run_judged _ _ _ _ _ _ _ _ none same) (run_refuses _ _ some _ _ _ _ _ _)

pub rewrite-requires : goal.rewrite-requires
rewrite-requires c = rw c.new-generator.ensures (ready (goal.at.rewrite-requires c).In_ok-input_fault)

pub returns : goal.returns
returns c =
    let none = given (goal.at.returns c).In_ok-input_fault in
    let fresh = done_is _ _ (rw c.new-generator.ensures at c.in_ok-judge.ensures) in
    let (done, counted) = rw c.new-generator.ensures at c.rewrite.ensures in
    run_says _ _ _ _ _ _ _ _ _ _ (run_judged _ _ _ _ _ _ _ _ none (sym fresh)) done counted
