-- `gather_few` meets its contract. The loop's invariant: the rows of the blocks below b are in the tile.
use Rattle.std.proofs.Common.{◌+◌, ◌*◌, ◌≤◌, ◌≡◌, ◌∙◌, length, arith}
use native.Mathlib.Nat.{add-sub_cancel_left}
use Rattle.lists.proofs.Rows.{part_length}
use Rattle.layout.specs.Layout.{lane_of}
use Rattle.layout.proofs.Runs.{length_replaced}
use Rattle.tiles.specs.Inner.Squares.{as_rows}
use Rattle.tiles.proofs.Blocks.{rows_turned}
use Rattle.tiles.proofs.Gathered.{tile_more, tile_lane, block_rows, length_rows_of}
use Rattle.tiles.proofs.gathering.gather_few.Goals as goal

pub loop-b-preserved : goal.loop-b-preserved
loop-b-preserved c =
    let a = c.args.lanes in
    let l = c.loop-b in
    let j = l.b * 16 in
    let made = c.fill_block.ensures in
    let block = c.fill_block.new.block in
    let fits : j * 64 + 1024 ≤ length l.tile = omega arith in
    let next : (l.b + 1) * 16 ≡ j + 16 = omega arith in
    let rows_are = rows_turned block _ _ (part_length (j * 64) 1024 l.tile fits) c.turn_all.ensures in (
      made.long,
      rw (rows_are, add-sub_cancel_left (j * 64) 1024) (length_replaced l.tile (as_rows block) (j * 64) 1024 (length_rows_of block) fits ∙ l.invariant.1),
      rw (next, rows_are, add-sub_cancel_left (j * 64) 1024) (tile_more a.rows j 16 a.count _ l.tile (as_rows block) 1024 (length_rows_of block) fits c.requires.0 l.invariant.2 (block_rows a.rows j a.count a.bytes.now block c.requires.0 made)),
    )

pub returns : goal.returns
unfolding lane_of
returns c = let l = c.loop-b in (l.invariant.1, tile_lane _ (l.b * 16) _ _ _ l.invariant.2 (omega arith))
