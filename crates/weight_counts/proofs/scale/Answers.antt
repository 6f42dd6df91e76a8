-- `scale` meets its contract. Invariant: the places below w are multiplied, and the others are to come.
use Rattle.std.proofs.Common.{◌<◌, ◌≤◌, length, arith}
use Rattle.lists.proofs.Rows.{from_next, from_end}
use Rattle.lists.proofs.Fill.{fills_put, fills_next, fills_all}
use Rattle.weight_counts.proofs.scale.Goals as goal

pub loop-w-preserved : goal.loop-w-preserved
loop-w-preserved c =
    let l = c.loop-w in
    let more : l.w < length c.args.counts.now = omega (arith, l.invariant.long) in
    let todo = rw (from_next _ _ _ more) at l.invariant in
    rw (fills_next l.invariant 0) (fills_put todo more)

pub returns : goal.returns
returns c =
    let l = c.loop-w in
    let long : length c.args.counts.now ≤ l.w = omega (arith, l.invariant.long) in
    fills_all (rw (from_end _ _ _ long) at l.invariant) long
