-- `rebuild_weights` meets its contract: the values of the basis polynomials at root^target are such weights.
use mathlib.Core.Path.{◌≡◌, sym, ◌∙◌}
use Prim.Native.Nat.{◌≤◌}
use native.Mathlib.Omega.{arith}
use lib.ListN.{length, take}
use Rattle.lists.proofs.Padding.{take_padded}
use Rattle.generator.specs.Records.{modulus_of}
use Rattle.generator.proofs.Recovery.{nodes_places}
use Rattle.interpolation.specs.Inner.Points.{SymbolList, points_of}
use Rattle.interpolation.specs.Inner.Lagrange.{scales_of}
use Rattle.interpolation.proofs.Values.{length_scales}
use Rattle.interpolation.proofs.Points.{length_points, points_symbols}
use Rattle.node_weights.proofs.Rebuilding.{rebuilds}
use Rattle.node_weights.proofs.rebuild_weights.Goals as goal
use Rattle.node_weights.proofs.rebuild_weights.Goals.{After-points-list, After-power-z, After-scales-scales}

-- the list of nodes has the length k, which is at most 255
few : (c : After-power-z) → let a = c.args in (length a.nodes.now ≡ a.code.header.k) × (a.code.header.k ≤ 255)
few c = ((nodes_places _ _ c.requires.0).size, omega (arith, c.args.code.sound.fits, c.args.code.sound.byte))

pub points-list-requires : goal.points-list-requires
points-list-requires c =
    let n = few (goal.at.points-list-requires c).After-power-z in
    (omega arith, omega arith)

-- the part of the array that holds the points
part : (c : After-points-list)
    → let a = c.args in
    take a.code.header.k c.points-list.result ≡ points_of (modulus_of a.code.header) a.code.header.root 0 a.nodes.now
part c =
    let a = c.args in
    rw (c.points-list.ensures, c.new-field.ensures) (take_padded 255 a.code.header.k _ (length_points (modulus_of a.code.header) a.code.header.root 0 a.nodes.now ∙ (few (goal.at.After-points-list c).After-power-z).0))

-- there are k points
many : (c : After-points-list) → let a = c.args in a.code.header.k ≡ length (take a.code.header.k c.points-list.result)
many c =
    let a = c.args in
    rw (part c) (sym (length_points (modulus_of a.code.header) a.code.header.root 0 a.nodes.now ∙ (few (goal.at.After-points-list c).After-power-z).0))

-- they are symbols
symbols : (c : After-points-list) → let a = c.args in SymbolList (modulus_of a.code.header) (take a.code.header.k c.points-list.result)
symbols c =
    let a = c.args in
    let s = c.args.code.sound in
    let n = few (goal.at.After-points-list c).After-power-z in
    rw (part c) (points_symbols (modulus_of a.code.header) a.code.header.root 0 a.nodes.now s.field s.root_below (omega arith))

pub invariant_of-points : goal.invariant_of-points
invariant_of-points c = record { symbols = rw c.new-field.ensures (symbols (goal.at.invariant_of-points c).After-points-list) }

-- their scales as they are lent
scales-are : (c : After-scales-scales) → let a = c.args in let xs = take a.code.header.k c.points-list.result in take a.code.header.k c.scales-scales.result ≡ scales_of (modulus_of a.code.header) xs
scales-are c =
    let a = c.args in
    let xs = take a.code.header.k c.points-list.result in
    rw (c.scales-scales.ensures, c.new-field.ensures) (take_padded 255 a.code.header.k _ (length_scales (modulus_of a.code.header) xs ∙ sym (many (goal.at.After-scales-scales c).After-points-list)))

pub values-requires : goal.values-requires
values-requires c =
    (rw c.new-field.ensures (scales-are (goal.at.values-requires c).After-scales-scales), c.power-z.ensures.symbol)

pub returns : goal.returns
returns c =
    let a = c.args in
    let s = c.requires in
    rw (c.values.ensures, part (goal.at.returns c).After-points-list, c.power-z.ensures.is, c.new-field.ensures) (rebuilds a.code.header c.args.code.sound a.nodes.now s.0 a.target (few (goal.at.returns c).After-power-z).1)
