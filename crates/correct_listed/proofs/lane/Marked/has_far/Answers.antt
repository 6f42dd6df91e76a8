-- `has_far` meets its contract. Invariant: the search from 0 on is the search from t on.
use mathlib.Core.Path.{◌≡◌, sym, ◌∙◌}
use native.Mathlib.Omega.{arith}
use borrow.Author.Tests.{not-true, not-false}
use Rattle.lists.proofs.Search.{search_next, search_found, search_end}
use Rattle.layout.specs.Layout.{lane_after_lane}
use Rattle.correct_listed.specs.Blocks.{first_far_listed}
use Rattle.correct_listed.proofs.Answers.{far_met, far_none}
use Rattle.correct_listed.proofs.lane.Marked.has_far.Goals as goal

pub returns-then-not-is_near : goal.returns-then-not-is_near
unfolding first_far_listed
returns-then-not-is_near c =
    let m = c.args.self in
    let found = c.loop-t.invariant ∙ search_found _ _ _ c.loop-t-test.true (sym c.is_near.ensures ∙ not-true _ c.if-not-is_near.true-raw) in
    sym (far_met m.rows.code.header m.lanes m.nodes.now m.shares.now lane_after_lane c.loop-t.t found c.loop-t-test.true)

pub loop-t-preserved : goal.loop-t-preserved
loop-t-preserved c =
    c.loop-t.invariant ∙ search_next _ _ _ c.loop-t-test.true (sym c.is_near.ensures ∙ not-false _ c.if-not-is_near.false-raw)

pub returns : goal.returns
unfolding first_far_listed
returns c =
    let m = c.args.self in
    let end : c.loop-t.t ≡ m.lanes = omega arith in
    sym (far_none m.rows.code.header m.lanes m.nodes.now m.shares.now lane_after_lane (c.loop-t.invariant ∙ search_end _ _ _ c.loop-t-test.false ∙ end))
