-- `store_rows` meets its contract. The loop's invariant: the first i rows are written up to the tile's last lane.
use Rattle.std.proofs.Common.{ℕ, ◌*◌, get_or}
use Rattle.lists.specs.Rows.{from}
use Rattle.layout.specs.Inner.Filling.{RowsFilled}
use Rattle.layout.specs.Width.{bytes_of}
use Rattle.layout.proofs.Stretches.{stretch}
use Rattle.block_products.specs.Inner.Ways.{Sums, RowsDone}
use Rattle.block_products.proofs.job.Part.store_rows.Given as goal

abbrev pub invariant-loop-i : goal.invariant-loop-i
invariant-loop-i l =
    let p = l.self in
    let w = p.job.w.bytes in
    let m = p.job.m in
    (f : ℕ → ℕ → ℕ) → Sums w m.outputs p.first p.count f l.words → RowsDone w m.outputs m.lanes f p.first l.initial.out → RowsFilled m.outputs (m.lanes * w) (λ i x. get_or (bytes_of w (from (f i) 0 m.lanes)) x 0) (stretch (p.first * w) (p.count * w) l.i) l.out
