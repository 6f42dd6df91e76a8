-- `mark_in` meets its contract: the sums are 0 where the lane is a word.
use mathlib.Core.Path.{◌∙◌}
use native.Mathlib.Omega.{arith}
use Rattle.layout.proofs.Places.{share_by_lane}
use Rattle.wrong_lanes.proofs.Checks.{sums_words, checks_ready}
use Rattle.wrong_lanes.proofs.Shares.{buffer_bytes}
use Rattle.wrong_lanes.proofs.Block.mark_in.Goals as goal

pub fill-requires : goal.fill-requires
fill-requires g c =
    let p = c.requires in
    rw c.product.ensures
    (checks_ready (buffer_bytes _ c.width_of-w.ensures c.args.self.symbols) p.3 record { entries = omega (arith, p.2.entries, c.list_checks.auto.lists); sizes = omega (arith, p.2.sizes, c.list_checks.auto.counts) } c.list_checks.ensures)

pub returns : goal.returns
returns g c =
    let b = c.args.self in
    let m = c.product.ensures in
    let wide = c.width_of-w.ensures in
    let checks = c.list_checks.ensures in
    rw (share_by_lane, ← wide) (c.fill.ensures checks.weights (rw m checks.begun) ∙ sums_words b.shares.now c.width_of-w.result.bytes _ checks.weights m checks.tell (buffer_bytes _ wide b.symbols).symbol_rows)
