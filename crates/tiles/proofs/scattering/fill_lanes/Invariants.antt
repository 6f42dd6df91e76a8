-- `fill_lanes` meets its contract. Invariant: the lanes below t are written.
use Rattle.tiles.specs.Inner.Squares.{lane_at}
use Rattle.tiles.proofs.Parts.{LanesFilled}
use Rattle.tiles.proofs.scattering.fill_lanes.Given as goal

abbrev pub invariant-loop-t : goal.invariant-loop-t
invariant-loop-t l = LanesFilled (λ t. lane_at t l.n l.blocks) l.n l.count l.initial.out l.out l.t
