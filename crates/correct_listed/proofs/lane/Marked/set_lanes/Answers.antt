-- `set_lanes` meets its contract. Invariant: the lanes before t are set right and counted.
use mathlib.Core.Path.{◌≡◌, ◌∙◌}
use native.Mathlib.Omega.{arith}
use Rattle.layout.specs.Layout.{lane_after_lane}
use Rattle.correct_listed.proofs.Answers.{none_is_far}
use Rattle.correct_listed.proofs.SetLanes.{message_long, wrong_long, wrong_few, message_start, wrong_start, message_end, wrong_end, near_each, message_next, wrong_next, message_stays, wrong_stays}
use Rattle.correct_listed.proofs.lane.Marked.set_lanes.Goals as goal

pub loop-t-init : goal.loop-t-init
loop-t-init c =
    let m = c.args.self in
    let h = m.rows.code.header in
    (c.requires.3 ∙ message_start h m.nodes.now m.lanes m.shares.now, c.requires.4 ∙ wrong_start h m.nodes.now m.lanes m.shares.now)

pub set_lane-requires : goal.set_lane-requires
set_lane-requires c =
    let m = c.args.self in
    let h = m.rows.code.header in
    let l = c.loop-t in
    let none = none_is_far h m.lanes m.nodes.now m.shares.now lane_after_lane c.requires.0 in (
      c.loop-t-test.true,
      near_each h m.nodes.now m.lanes m.shares.now none l.t c.loop-t-test.true,
      c.requires.1,
      c.requires.2,
      rw l.invariant.0 (message_long h m.nodes.now m.lanes m.shares.now l.t),
      rw l.invariant.1 (wrong_long h m.nodes.now m.lanes m.shares.now l.t),
      λ i. rw l.invariant.1 (omega (arith, wrong_few h m.nodes.now m.lanes m.shares.now l.t i, c.loop-t-test.true, m.symbols.few_lanes)),
    )

pub loop-t-preserved-then-self-t-eq0 : goal.loop-t-preserved-then-self-t-eq0
loop-t-preserved-then-self-t-eq0 c =
    let m = c.args.self in
    let h = m.rows.code.header in
    let l = c.loop-t in
    let inside = c.loop-t-test.true in
    (l.invariant.0 ∙ message_stays h m.nodes.now m.lanes m.shares.now m.rows.code.sound m.listed m.symbols l.t inside m.agree c.if-self-t-eq0.true, l.invariant.1 ∙ wrong_stays h m.nodes.now m.lanes m.shares.now m.rows.code.sound m.listed m.symbols l.t inside m.agree c.if-self-t-eq0.true)

pub loop-t-preserved : goal.loop-t-preserved
loop-t-preserved c =
    let m = c.args.self in
    let h = m.rows.code.header in
    let l = c.loop-t in
    let inside = c.loop-t-test.true in
    (message_next h m.nodes.now m.lanes m.shares.now m.rows.code.sound m.listed m.symbols l.t inside l.invariant.0 c.set_lane.ensures.0, wrong_next h m.nodes.now m.lanes m.shares.now m.rows.code.sound m.listed m.symbols l.t inside l.invariant.1 c.set_lane.ensures.1)

pub returns : goal.returns
returns c =
    let m = c.args.self in
    let h = m.rows.code.header in
    let l = c.loop-t in
    let end : l.t ≡ m.lanes = omega arith in
    (l.invariant.0 ∙ message_end h m.nodes.now m.lanes m.shares.now l.t (omega arith), l.invariant.1 ∙ wrong_end h m.nodes.now m.lanes m.shares.now l.t end)
