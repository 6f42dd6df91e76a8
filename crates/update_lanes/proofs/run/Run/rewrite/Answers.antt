-- `rewrite` meets its contract: `RewritingRun` is the invariant, and a turn is its law.
use Prim.Native.Nat.{◌+◌, ◌*◌, ◌≤◌}
use native.Mathlib.Omega.{arith}
use Rattle.lists.proofs.Numbers.{at_below}
use Rattle.update_lanes.proofs.Rewriting.{run_start, run_lane, run_next, run_few}
use Rattle.update_lanes.proofs.run.Run.rewrite.Goals as goal

pub loop-i-init : goal.loop-i-init
loop-i-init c = run_start c.requires (at_below 256 _ (λ i h. omega (arith, c.type_inv.shares i)))

pub rewrite_lane-altered-requires : goal.rewrite_lane-altered-requires
rewrite_lane-altered-requires c =
    rw (c.lane.ensures, c.width_of-w.ensures) (run_lane c.requires c.loop-i.invariant (rw c.count-lanes.ensures at c.loop-i-test.true))

pub overflow_add-altered : goal.overflow_add-altered
overflow_add-altered c =
    let (is, counts) = rw (c.lane.ensures, c.width_of-w.ensures) at c.rewrite_lane-altered.ensures in
    let few : c.loop-i.altered + c.rewrite_lane-altered.result ≤ 255 * 4096 = run_few c.requires c.loop-i.invariant (rw c.count-lanes.ensures at c.loop-i-test.true) _ _ is counts in
    omega (arith, few)

pub loop-i-preserved : goal.loop-i-preserved
loop-i-preserved c =
    let (is, counts) = rw (c.lane.ensures, c.width_of-w.ensures) at c.rewrite_lane-altered.ensures in
    run_next c.requires c.loop-i.invariant (rw c.count-lanes.ensures at c.loop-i-test.true) _ _ is counts
