-- `take_square` meets its contract. The loop's invariant: the rows below i are taken.
use Rattle.std.proofs.Common.{◌+◌, ◌*◌, ◌-◌, arith}
use lib.Lanes.{chunk}
use Rattle.std.proofs.lemmas.Simd.{length-chunk}
use Rattle.lists.proofs.Rows.{row_after}
use Rattle.lists.proofs.Parts.{valued_all}
use Rattle.tiles.specs.Inner.Squares.{square_at, placed}
use Rattle.tiles.proofs.Blocks.{square_byte, square_row, row_fits}
use Rattle.tiles.proofs.Chunks.{put_rest, valued_chunk}
use Rattle.tiles.proofs.squares.take_square.Goals as goal

pub loop-i-preserved : goal.loop-i-preserved
loop-i-preserved c =
    let l = c.loop-i in
    let width = c.args.width in
    let first = c.args.first in
    let rows = c.args.rows.now in
    let at = l.i * width + first in
    let row = chunk at 16 rows in
    let size = length-chunk at 16 rows (row_fits width first l.i _ c.loop-i-test.true c.requires) in
    rw (row_after, put_rest (l.i * 16) (256 - l.i * 16) l.a row (omega (arith, l.invariant.long)) (omega (arith, size)))
    (valued_chunk (square_byte width first rows) 256 row 16 l.invariant (omega arith) (omega arith) size (square_row width first rows l.i))

pub returns : goal.returns
unfolding square_at placed
returns c = valued_all _ 256 c.loop-i.invariant (omega arith) (omega arith)
