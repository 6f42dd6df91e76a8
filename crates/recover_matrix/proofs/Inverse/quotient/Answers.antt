-- `quotient` meets its contract: what is prepared for the nodes holds their points and the product.
use Rattle.recover_matrix.proofs.Prepared.{own_parts, point_below}
use Rattle.recover_matrix.proofs.Inverse.quotient.Goals as goal

pub invariant_of-product : goal.invariant_of-product
invariant_of-product c =
    let v = c.args.self in
    let own = own_parts v.codec.code.sound v.nodes.now v.different v.prepared in
    rw (v.codec.same, own.product) record { symbols = own.some_product.are }

pub quotient-requires : goal.quotient-requires
quotient-requires c =
    let v = c.args.self in
    rw v.codec.same (point_below v.codec.code.sound v.nodes.now v.different v.prepared _ c.requires)

pub returns : goal.returns
returns c =
    let v = c.args.self in
    let own = own_parts v.codec.code.sound v.nodes.now v.different v.prepared in
    rw (c.quotient.ensures, v.codec.same, own.product, own.point c.args.i c.requires)
