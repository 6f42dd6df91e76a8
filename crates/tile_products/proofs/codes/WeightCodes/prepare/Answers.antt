-- `prepare` meets its contract: the lists are made in their part.
use Rattle.std.proofs.Common.{◌*◌, length}
use native.Mathlib.Nat.{add-sub_cancel_left}
use Rattle.tile_products.specs.Inner.Products.{groups_of}
use Rattle.tile_products.proofs.Beginning.{begun_row}
use Rattle.tile_products.proofs.codes.WeightCodes.prepare.Goals as goal

pub returns : goal.returns
returns c =
    λ w is b.
    let a = c.args in
    let g = c.groups_of-size.ensures.value in
    let n = length a.weights.now in
    rw (g, add-sub_cancel_left (a.j * (8 * groups_of n)) (8 * groups_of n), add-sub_cancel_left (a.j * 8) 8) (begun_row w a.j a.lists.now a.counts.now is c.requires.3 c.requires.4 c.list.ensures b)
