-- `mark_in` meets its contract: the sums are 0 only where the lane agrees.
use native.Mathlib.Omega.{arith}
use Rattle.generator.specs.Records.{modulus_of}
use Rattle.wrong_lanes.specs.Inner.Checks.{check_row}
use Rattle.listed_products.specs.Inner.Shares.{listed_points}
use Rattle.listed_products.proofs.Products.{agree_marks, agree_ready}
use Rattle.listed_products.proofs.ListedBlock.mark_in.Goals as goal

pub fill-requires : goal.fill-requires
fill-requires g c =
    let b = c.args.self in
    let p = c.requires in
    rw c.checks.ensures
    (agree_ready b.code.sound b.listed b.symbols c.width_of-w.ensures p.3 record { entries = omega (arith, p.2.entries, c.list_checks.auto.lists); sizes = omega (arith, p.2.sizes, c.list_checks.auto.counts) } c.list_checks.ensures)

pub returns : goal.returns
returns g c =
    let b = c.args.self in
    let h = b.code.header in
    agree_marks b.code.sound b.listed b.symbols c.width_of-w.ensures c.checks.ensures (c.fill.ensures (check_row (modulus_of h) h.k (listed_points h b.nodes.now)) (rw c.checks.ensures c.list_checks.ensures))
