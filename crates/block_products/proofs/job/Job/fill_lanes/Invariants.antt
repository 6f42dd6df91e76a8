-- `fill_lanes` meets its contract. The loop's invariant: the lanes below `first` are written.
use Rattle.std.proofs.Common.{ℕ, List}
use Rattle.field.specs.Kinds.{modulus}
use Rattle.tile_products.specs.Inner.Matrices.{Begun}
use Rattle.block_products.specs.Inner.Ways.{lane_sum, Done}
use Rattle.block_products.proofs.job.Job.fill_lanes.Given as goal

abbrev pub invariant-loop-first : goal.invariant-loop-first
invariant-loop-first l =
    let j = l.self in
    (ws : ℕ → List ℕ) → Begun (modulus j.m.field) j.m.rows ws j.m.outputs j.lists.now j.counts.now → Done j.m.way j.w.bytes j.m.outputs j.m.lanes (lane_sum j.m j.w.bytes ws j.source.now) l.first l.out
