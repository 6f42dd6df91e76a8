-- `fill_blocks` meets its contract. The loop's invariant: the first b blocks are filled.
use Rattle.std.proofs.Common.{◌+◌, ◌*◌, ◌-◌, take, drop, arith}
use native.Mathlib.Nat.{add-sub_cancel_left}
use Rattle.lists.proofs.Rows.{row_after, part_length}
use Rattle.lists.proofs.Parts.{valued_part, valued_all}
use Rattle.tiles.specs.Inner.Squares.{as_lanes, blocks_of, placed}
use Rattle.tiles.proofs.Blocks.{lanes_turned}
use Rattle.tiles.proofs.Scattered.{block_byte, block_byte_lem, length_as_lanes}
use Rattle.tiles.proofs.scattering.fill_blocks.Goals as goal

pub loop-b-preserved : goal.loop-b-preserved
loop-b-preserved c =
    let l = c.loop-b in
    let a = c.args in
    let at = l.b * 1024 in
    rw (row_after, lanes_turned _ _ _ (part_length at 1024 l.blocks (omega arith)) c.turn_all.ensures) (valued_part (block_byte a.tile.now) (a.count * 1024) (as_lanes (take (at + 1024 - at) (drop at a.tile.now))) 1024 _ l.invariant (omega arith) (omega arith) (add-sub_cancel_left at 1024) (length_as_lanes _) (λ p h. block_byte_lem a.tile.now l.b p h))

pub returns : goal.returns
unfolding blocks_of placed
returns c = valued_all _ _ c.loop-b.invariant (omega arith) (omega arith)
