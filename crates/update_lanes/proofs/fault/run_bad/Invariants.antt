-- `run_bad` meets its contract: the lanes before lane i hold symbols.
use mathlib.Core.Path.{◌≡◌}
use Prim.Native.Nat.{ℕ, ◌+◌, ◌-◌}
use Rattle.layout.specs.Layout.{share_layout}
use Rattle.refusals.specs.Conditions.{lane_bad}
use Rattle.update_lanes.specs.Runs.{any_from}
use Rattle.update_lanes.proofs.fault.run_bad.Given as goal

abbrev pub invariant-loop-i : goal.invariant-loop-i
invariant-loop-i l =
    let bad = λ (i : ℕ). lane_bad share_layout l.h l.lanes (l.first + i) l.shares in
    any_from l.count 0 bad ≡ any_from (l.count - l.i) l.i bad
