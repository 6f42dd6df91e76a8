use Rattle.std.proofs.Common.{◌≡◌, length, arith}
use lib.Lanes.{chunk}
use Rattle.std.proofs.lemmas.Simd.{put_chunk_is, length-chunk}
use native.Mathlib.Nat.{add-sub_cancel_left}
use Rattle.tiles.specs.Inner.Words.{patched}
use Rattle.tiles.proofs.moves.move_at.Goals as goal

pub returns : goal.returns
unfolding patched
returns g c =
    let a = c.args in
    let xs = chunk a.at g.row.N a.from.now in
    let size : length xs ≡ g.row.N = length-chunk a.at g.row.N a.from.now c.requires.0 in
    rw (add-sub_cancel_left a.at g.row.N, put_chunk_is a.at a.to.now xs (omega arith), size)
