-- `lagrange_basis` meets its contract: each part of the basis is made of the points.
use mathlib.Core.Path.{◌≡◌}
use lib.ListN.{length, take}
use Rattle.lists.proofs.Padding.{take_padded}
use Rattle.field.specs.Kinds.{modulus}
use Rattle.field.proofs.KindLaws.{usable_field}
use Rattle.interpolation.specs.Inner.Points.{points_of}
use Rattle.node_weights.specs.Inner.Rows.{basis_of}
use Rattle.interpolation.proofs.Points.{length_points, points_symbols}
use Rattle.node_weights.proofs.lagrange_basis.Goals as goal
use Rattle.node_weights.proofs.lagrange_basis.Goals.{After-points-list}

-- the part of the array that holds the points
part : (c : After-points-list)
    → let a = c.args in
    take (length a.places.now) c.points-list.result ≡ points_of (modulus a.root.field.field) a.root.value a.offset a.places.now
part c =
    let a = c.args in
    rw c.points-list.ensures (take_padded 255 (length a.places.now) _ (length_points (modulus a.root.field.field) a.root.value a.offset a.places.now))

pub invariant_of-points : goal.invariant_of-points
invariant_of-points c =
    let s = c.requires in
    rw (part (goal.at.invariant_of-points c).After-points-list) record { symbols = points_symbols _ _ _ _ (usable_field _ c.args.root.field.usable) c.args.root.symbol s.0 }

pub returns : goal.returns
unfolding basis_of
returns c =
    let p = part (goal.at.returns c).After-points-list in
    rw (c.scales-scales.ensures, c.product-product.ensures, p, c.points-list.ensures)
