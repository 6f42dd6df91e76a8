-- `turn_all` meets its contract. The loop's invariant: the columns of the squares below i are turned.
use Rattle.std.proofs.Common.{min, ◌+◌, ◌*◌, ◌≡◌, length, arith}
use Rattle.tiles.proofs.Blocks.{columns_more, columns_left}
use Rattle.tiles.proofs.turning.turn_all.Goals as goal

pub loop-i-preserved : goal.loop-i-preserved
loop-i-preserved c =
    let a = c.args in
    let l = c.loop-i in
    let first = c.min-first.result in
    let next : min ((l.i + 1) * 16) a.columns ≡ first + 16 = omega arith in
    let room = columns_left a.columns first a.to a.count (length l.out) (omega arith) (omega (arith, l.invariant.long, c.requires.4)) in
    rw next (columns_more a.width a.to a.count a.rows.now a.out.now _ first l.out _ (omega arith) (omega (arith, room.1)) room.0 l.invariant c.turn_sixteen.ensures)
