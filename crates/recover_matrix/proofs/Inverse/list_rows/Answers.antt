-- `list_rows` meets its contract: the sums are those of the terms and the quotients.
use mathlib.Core.Path.{◌≡◌}
use Prim.Native.Nat.{ℕ, ◌*◌, ◌≤◌}
use native.Mathlib.Omega.{arith}
use lib.ListN.{length, take, replicate, length-replicate}
use lib.Seq.{length-take-le}
use Rattle.generator.specs.declared.Header.{Header}
use Rattle.generator.specs.Records.{width}
use Rattle.recover_matrix.specs.Inner.Inverse.{node_quotient, square_bytes}
use Rattle.recover_matrix.proofs.Prepared.{few}
use Rattle.recover_matrix.proofs.Room.{less_room, rows_ready, sums_written}
use Rattle.recover_matrix.proofs.Inverse.list_rows.Goals as goal

-- a square matrix in scratch
square : (h : Header) (w room : ℕ) → w ≡ width h → square_bytes h ≤ room → length (take (w * h.k * h.k) (replicate {A = ℕ} room 0)) ≡ square_bytes h
square h w room wide fits = rw wide (length-take-le _ _ (omega (arith, length-replicate {A = ℕ} room 0, fits)))

pub list_quotients-requires : goal.list_quotients-requires
list_quotients-requires g c = (c.new-codes.ensures, (less_room c.requires.2 c.requires.4).2)

pub fill-requires : goal.fill-requires
fill-requires g c =
    let h = c.args.self.codec.code.header in
    let s = c.args.self.codec.code.sound in
    let wide = c.width_of-w.ensures in
    let part = square h c.width_of-w.result.bytes g.row.SQUARE wide c.requires.1 in
    rw c.product.ensures
    (rows_ready s wide (omega (arith, few s)) (omega (arith, c.fill_terms.auto.out, part)) part (rw (c.list_quotients.auto.lists, c.list_quotients.auto.counts) (less_room c.requires.2 c.requires.4).2) c.list_quotients.ensures)

pub list_from-requires : goal.list_from-requires
list_from-requires g c =
    let v = c.args.self in
    let product = c.product.ensures in
    let made = rw product at (c.fill.ensures (node_quotient v.codec.code.header v.nodes.now) (rw product c.list_quotients.ensures)) in
    (sums_written v.codec.code.header v.nodes.now c.width_of-w.ensures c.fill_terms.ensures made, c.new-codes.ensures, c.requires.2, c.requires.3, rw (c.list_quotients.auto.lists, c.list_quotients.auto.counts) c.requires.4)
