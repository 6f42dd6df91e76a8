-- `fill_in` meets its contract: a product of matrices, whose lists fit the scratch.
use mathlib.Core.Path.{refl, ◌∙◌}
use native.Mathlib.Omega.{arith}
use Rattle.encode.specs.Inner.Columns.{column_of}
use Rattle.encode.specs.Inner.Encoded.{record_header}
use Rattle.encode.proofs.Words.{product_shares, columns_ready}
use Rattle.encode.proofs.message.Message.fill_in.Goals as goal

pub fill-requires : goal.fill-requires
fill-requires g c =
    let m = c.args.self in
    let room = c.requires.2 in
    rw c.product.ensures
    (columns_ready m.generator.now.planned.sound m.rows c.requires.3 (omega (arith, room.entries, c.fill_lists.auto.lists)) (omega (arith, room.sizes, c.fill_lists.auto.counts)) c.fill_lists.ensures)

pub returns : goal.returns
returns g c =
    let m = c.args.self in
    let product = c.product.ensures in
    rw product at (c.fill.ensures (column_of (record_header m)) (rw product c.fill_lists.ensures)) ∙ product_shares (record_header m) m.width.bytes m.lanes m.bytes.now _ refl
