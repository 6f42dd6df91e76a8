-- `scatter` meets its contract. Invariant: the lanes below t are written.
use Rattle.layout.specs.Layout.{row_after_row, lane_of}
use Rattle.tiles.proofs.Parts.{LanesFilled}
use Rattle.tiles.proofs.columns.scatter.Given as goal

abbrev pub invariant-loop-t : goal.invariant-loop-t
invariant-loop-t l = LanesFilled (λ q. lane_of row_after_row l.rows l.lanes q l.tile) l.rows l.lanes l.initial.part l.part l.t
