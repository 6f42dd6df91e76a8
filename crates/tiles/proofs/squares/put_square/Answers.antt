-- `put_square` meets its contract. The loop's invariant: the rows below i are put.
use Rattle.std.proofs.Common.{◌*◌, ◌-◌, ◌≡◌, take, drop, length-drop, take_all, arith}
use Rattle.tiles.proofs.Blocks.{squared_row}
use Rattle.tiles.proofs.squares.put_square.Goals as goal

pub loop-i-preserved : goal.loop-i-preserved
loop-i-preserved c =
    let l = c.loop-i in
    let a = c.args in
    let square = a.a.now in
    let rest : take (256 - l.i * 16) (drop (l.i * 16) square) ≡ drop (l.i * 16) square = take_all _ _ (omega (arith, length-drop (l.i * 16) square)) in
    rw rest (squared_row square a.width a.first a.rows.now (omega arith) c.requires l.i l.rows c.loop-i-test.true l.invariant)
