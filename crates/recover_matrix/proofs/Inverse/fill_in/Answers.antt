-- `fill_in` meets its contract: the lists are those of the inverse.
use native.Mathlib.Omega.{arith}
use Rattle.recover_matrix.specs.Inner.Inverse.{inverse_row}
use Rattle.recover_matrix.proofs.Rows.{rows_begun}
use Rattle.recover_matrix.proofs.Room.{rows_ready, message_written}
use Rattle.recover_matrix.proofs.Inverse.fill_in.Goals as goal

pub fill-requires : goal.fill-requires
fill-requires g c =
    let p = c.requires in
    rw c.product.ensures
    (rows_ready c.args.self.codec.code.sound c.width_of-w.ensures p.5 p.6 p.7 record { entries = omega (arith, p.3.entries, c.list_rows.auto.lists); sizes = omega (arith, p.3.sizes, c.list_rows.auto.counts) } c.list_rows.ensures)

pub returns : goal.returns
returns g c =
    let v = c.args.self in
    let product = c.product.ensures in
    message_written v.codec.code.header v.nodes.now c.args.lanes c.args.shares.now c.width_of-w.ensures (rw product at (c.fill.ensures (inverse_row v.codec.code.header v.nodes.now) (rw product (rows_begun v.codec.code.sound v.nodes.now v.different c.list_rows.ensures))))
