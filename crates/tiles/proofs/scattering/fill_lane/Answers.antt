-- `fill_lane` meets its contract. The loop's invariant: the symbols of the blocks below b are written.
use Rattle.std.proofs.Common.{◌≡◌, refl, ◌+◌, ◌*◌, ◌/◌, le_refl, length, arith}
use lib.Lanes.{chunk}
use Rattle.std.proofs.lemmas.Simd.{length-chunk}
use Rattle.lists.proofs.Rows.{row_after}
use Rattle.tiles.specs.Inner.Squares.{placed, lane_at}
use Rattle.lists.proofs.Parts.{valued_all}
use Rattle.tiles.proofs.Chunks.{valued_chunk}
use Rattle.tiles.proofs.Rests.{lane_byte, lane_row, lane_rest}
use Rattle.tiles.proofs.scattering.fill_lane.Goals as goal

pub loop-b-preserved : goal.loop-b-preserved
loop-b-preserved c =
    let l = c.loop-b in
    let a = c.args in
    let blocks = a.blocks.now in
    let at = l.b * 1024 + a.t * 16 in
    rw row_after (valued_chunk (lane_byte blocks a.t) (length a.lane.now) (chunk at 16 blocks) 16 l.invariant (le_refl _) (omega arith) (length-chunk at 16 blocks (omega arith)) (lane_row blocks a.t l.b))

pub returns-then-done-n : goal.returns-then-done-n
returns-then-done-n c =
    let a = c.args in
    let all : c.loop-b.b ≡ length a.lane.now / 16 = omega arith in
    rw c.move_rest.ensures (lane_rest a.blocks.now a.t (length a.lane.now) (length a.lane.now / 16) (rw all at c.loop-b.invariant) refl (omega arith) (omega arith) (omega arith))

pub returns-else-done-n : goal.returns-else-done-n
unfolding lane_at placed
returns-else-done-n c = valued_all _ _ c.loop-b.invariant (omega arith) (omega arith)
