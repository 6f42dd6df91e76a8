-- `fill_lanes` meets its contract. Invariant: the lanes below t are written.
use Rattle.std.proofs.Common.{ℕ, List}
use Rattle.tiles.specs.Inner.Squares.{lane_at}
use Rattle.tiles.proofs.Parts.{lane_size, lane_more, lanes_all}
use Rattle.tiles.proofs.Rests.{length_lane}
use Rattle.tiles.proofs.scattering.fill_lanes.Goals as goal

pub loop-t-preserved : goal.loop-t-preserved
loop-t-preserved c =
    let a = c.args in
    let l = c.loop-t in
    let lane : ℕ → List ℕ = λ t. lane_at t a.n a.blocks.now in
    let size = lane_size lane a.n a.count l.t c.requires.2 l.invariant c.loop-t-test.true in
    rw (rw size at c.fill_lane.ensures) (lane_more lane a.n a.count l.t c.requires.2 l.invariant c.loop-t-test.true (length_lane l.t a.n a.blocks.now))

pub returns : goal.returns
returns c =
    let a = c.args in
    let lane : ℕ → List ℕ = λ t. lane_at t a.n a.blocks.now in
    lanes_all lane a.n a.count c.loop-t.t c.requires.2 c.loop-t.invariant c.loop-t-test.false
