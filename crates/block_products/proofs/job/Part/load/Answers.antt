-- `load` meets its contract: each way has its own arrangement.
use Rattle.std.proofs.Common.{inl, inr, ap, ◌∙◌}
use Rattle.layout.specs.Width.{symbols_of}
use Rattle.layout.proofs.Widths.{symbols_bytes}
use Rattle.block_products.specs.Inner.Ways.{side_of}
use Rattle.block_products.proofs.job.Part.load.Goals as goal

pub returns-in-RowsToLanes : goal.returns-in-RowsToLanes
unfolding side_of
returns-in-RowsToLanes c =
    let j = c.args.self.job in
    rw c.in-RowsToLanes.is (λ t lane. ap (symbols_of j.w.bytes) (c.load_rows.ensures t lane) ∙ symbols_bytes j.w.bytes _ j.w.some)

pub returns-in-LanesToRows : goal.returns-in-LanesToRows
unfolding side_of
returns-in-LanesToRows c = elim c.in-LanesToRows.is [ inl e ↦ rw e c.load_lanes.ensures | inr e ↦ rw e c.load_lanes.ensures ]
