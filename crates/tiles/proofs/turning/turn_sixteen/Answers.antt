-- `turn_sixteen` meets its contract. The loop's invariant: the rows of the squares below i are turned.
use Rattle.std.proofs.Common.{min, ◌+◌, ◌*◌, ◌≡◌, arith}
use Rattle.lists.proofs.Rows.{part_rest}
use Rattle.tiles.proofs.Blocks.{turned_more}
use Rattle.tiles.proofs.turning.turn_sixteen.Goals as goal

pub loop-i-preserved : goal.loop-i-preserved
loop-i-preserved c =
    let a = c.args in
    let l = c.loop-i in
    let at = c.min-at.result in
    let next : min ((l.i + 1) * 16) a.count ≡ at + 16 = omega arith in
    let square = rw (part_rest (at * a.width) a.rows.now) at c.turn_square.ensures in
    rw next (turned_more a.width a.to a.first a.rows.now a.out.now a.count _ at l.out _ c.requires.2 (omega arith) (omega arith) l.invariant square)
