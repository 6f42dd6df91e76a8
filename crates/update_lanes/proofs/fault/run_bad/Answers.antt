-- `run_bad` meets its contract: the first lane that holds another number decides, or there is none.
use mathlib.Core.Path.{sym, ◌∙◌}
use Rattle.update_lanes.proofs.Searches.{any_passed, any_met, any_end}
use Rattle.update_lanes.proofs.fault.run_bad.Goals as goal

pub returns-then-lane_bad : goal.returns-then-lane_bad
returns-then-lane_bad c = sym (c.loop-i.invariant ∙ any_met _ _ _ c.loop-i-test.true (sym c.lane_bad.ensures ∙ c.if-lane_bad.true))

pub loop-i-preserved : goal.loop-i-preserved
loop-i-preserved c = c.loop-i.invariant ∙ any_passed _ _ _ c.loop-i-test.true (sym c.lane_bad.ensures ∙ c.if-lane_bad.false)

pub returns : goal.returns
returns c = sym (c.loop-i.invariant ∙ any_end _ _ _ c.loop-i-test.false)
