-- `load_rows` meets its contract. The loop's invariant: the rows of symbols below r are loaded.
use Rattle.std.proofs.Common.{ℕ, ◌+◌, ◌*◌, List, get_or}
use Rattle.layout.specs.Layout.{row_after_row, lane_of}
use Rattle.layout.specs.Width.{symbols_of, bytes_of}
use Rattle.tiles.specs.Inner.Tiles.{TileOf}
use Rattle.block_products.proofs.job.Part.load_rows.Given as goal

abbrev pub lane_bytes : ℕ → ℕ → ℕ → ℕ → List ℕ → ℕ → List ℕ
lane_bytes w rows lanes first source t = bytes_of w (lane_of row_after_row rows lanes (first + t) (symbols_of w source))

abbrev pub invariant-loop-r : goal.invariant-loop-r
invariant-loop-r l =
    let j = l.job in
    TileOf (j.w.bytes * j.m.rows) (l.r * j.w.bytes) l.self.count (λ x t. get_or (lane_bytes j.w.bytes j.m.rows j.m.lanes l.self.first j.source.now t) x 0) l.tile
