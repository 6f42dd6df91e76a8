-- `scatter` meets its contract. Invariant: the lanes below t are written.
use Rattle.std.proofs.Common.{ℕ, List, sym, ◌∙◌, mul_comm}
use Rattle.layout.specs.Layout.{row_after_row, held, lane_of, rearranged}
use Rattle.layout.proofs.Buffers.{length_lane}
use Rattle.layout.proofs.Places.{buffer_by_lane}
use Rattle.tiles.proofs.Parts.{lane_size, lane_more, lanes_all}
use Rattle.tiles.proofs.columns.scatter.Goals as goal

pub loop-t-preserved : goal.loop-t-preserved
loop-t-preserved c =
    let a = c.args in
    let l = c.loop-t in
    let lane : ℕ → List ℕ = λ q. lane_of row_after_row a.rows a.lanes q a.tile.now in
    let long = c.requires.1 ∙ mul_comm a.rows a.lanes in
    let size = lane_size lane a.rows a.lanes l.t long l.invariant c.loop-t-test.true in
    rw (rw size at c.fill_lane.ensures) (lane_more lane a.rows a.lanes l.t long l.invariant c.loop-t-test.true (length_lane row_after_row a.rows a.lanes l.t a.tile.now))

pub returns : goal.returns
unfolding rearranged lane_of
returns c =
    let a = c.args in
    let lane : ℕ → List ℕ = λ q. lane_of row_after_row a.rows a.lanes q a.tile.now in
    lanes_all lane a.rows a.lanes c.loop-t.t (c.requires.1 ∙ mul_comm a.rows a.lanes) c.loop-t.invariant c.loop-t-test.false
    ∙ sym (buffer_by_lane a.rows a.lanes (held row_after_row a.rows a.lanes a.tile.now))
