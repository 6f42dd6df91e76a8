-- `list_checks` meets its contract: the points are those of the listed nodes.
use mathlib.Core.Path.{◌≡◌, sym, ◌∙◌}
use native.Mathlib.Omega.{arith}
use lib.ListN.{length, take}
use Rattle.lists.proofs.Padding.{length_padded, take_padded}
use Rattle.generator.specs.Records.{modulus_of}
use Rattle.interpolation.proofs.Points.{length_points}
use Rattle.listed_products.specs.Inner.Shares.{listed_points}
use Rattle.listed_products.proofs.First.{nodes_byte, points_are}
use Rattle.listed_products.proofs.ListedBlock.list_checks.Goals as goal
use Rattle.listed_products.proofs.ListedBlock.list_checks.Goals.{Start, After-points-points}

-- as many points as nodes
many : (c : Start) → let b = c.args.self in length (listed_points b.code.header b.nodes.now) ≡ length b.nodes.now
many c = let b = c.args.self in length_points (modulus_of b.code.header) b.code.header.root 0 b.nodes.now

-- as they are lent
lent : (c : After-points-points) → let b = c.args.self in take (length b.nodes.now) c.points-points.result ≡ listed_points b.code.header b.nodes.now
lent c = rw (c.points-points.ensures, c.new-field.ensures) (take_padded 255 _ _ (many (goal.at.After-points-points c).Start))

pub points-points-requires : goal.points-points-requires
points-points-requires c = let b = c.args.self in (nodes_byte b.code.sound b.listed, omega arith)

pub slice_bounds-points-end : goal.slice_bounds-points-end
slice_bounds-points-end c =
    let b = c.args.self in
    let byte = nodes_byte b.code.sound b.listed in
    rw (c.points-points.ensures, c.new-field.ensures) (omega (arith, byte, length_padded 255 (listed_points b.code.header b.nodes.now) (omega (arith, byte, many (goal.at.slice_bounds-points-end c).Start))))

pub slice_bounds-others-end : goal.slice_bounds-others-end
slice_bounds-others-end c = rw (lent (goal.at.slice_bounds-others-end c).After-points-points) (sym (many (goal.at.slice_bounds-others-end c).Start))

pub invariant_of-others : goal.invariant_of-others
invariant_of-others c =
    let b = c.args.self in
    let are = lent (goal.at.invariant_of-others c).After-points-points in
    record { symbols = rw (c.new-field.ensures, are) (points_are b.code.sound b.listed); enough = rw (are, many (goal.at.invariant_of-others c).Start) b.listed.enough }

pub list-requires : goal.list-requires
list-requires c =
    (c.new-codes.ensures ∙ sym c.new-field.ensures, rw (lent (goal.at.list-requires c).After-points-points, many (goal.at.list-requires c).Start) c.requires)

pub returns : goal.returns
returns c = rw (c.new-field.ensures, lent (goal.at.returns c).After-points-points, many (goal.at.returns c).Start) at c.list.ensures
