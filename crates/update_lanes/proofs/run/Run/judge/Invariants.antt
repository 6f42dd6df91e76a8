-- `judge` meets its contract: the lanes before lane i may change.
use mathlib.Core.Path.{◌≡◌}
use Prim.Native.Nat.{◌-◌}
use Rattle.layout.specs.Width.{symbols_of}
use Rattle.generator.specs.Records.{width}
use Rattle.update_lanes.specs.Runs.{first_number, lane_fault}
use Rattle.update_lanes.proofs.run.Run.judge.Given as goal

abbrev pub invariant-loop-i : goal.invariant-loop-i
invariant-loop-i l =
    let h = l.generator.codec.code.header in
    let fault = lane_fault h l.self.lanes l.self.which l.self.first (symbols_of (width h) l.self.old.now) (symbols_of (width h) l.shares) in
    first_number l.count 0 fault ≡ first_number (l.count - l.i) l.i fault
