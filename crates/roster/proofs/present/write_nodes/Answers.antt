-- `write_nodes` meets its contract. Invariant: the first t nodes are written.
use Prim.Native.Nat.{◌<◌}
use native.Mathlib.Omega.{arith}
use lib.ListN.{length}
use Rattle.lists.proofs.Rows.{from_next_at}
use Rattle.lists.proofs.Fill.{fills_put}
use Rattle.roster.proofs.present.write_nodes.Goals as goal

pub loop-t-preserved : goal.loop-t-preserved
loop-t-preserved c =
    let l = c.loop-t in
    let more : l.t < length c.args.list.now = omega (arith, l.invariant.long, c.loop-t-test.true) in
    let todo = rw (from_next_at _ _ _ _ more) at l.invariant in
    fills_put todo more
