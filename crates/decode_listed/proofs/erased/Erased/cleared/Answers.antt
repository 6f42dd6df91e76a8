-- `cleared` meets its contract: the lost nodes' points and the product over them, lent as parts, give the sums.
use mathlib.Core.Path.{◌≡◌, ◌∙◌}
use Prim.Native.Nat.{◌+◌}
use native.Mathlib.Omega.{arith}
use lib.ListN.{length, take}
use Rattle.lists.proofs.Padding.{take_padded}
use Rattle.field.specs.Kinds.{modulus}
use Rattle.field.proofs.KindLaws.{usable_field}
use Rattle.interpolation.specs.Inner.Points.{SymbolList, points_of}
use Rattle.interpolation.specs.Inner.Polynomials.{product_of}
use Rattle.interpolation.proofs.Points.{length_points, points_symbols}
use Rattle.interpolation.proofs.Coefficients.{length_product_of}
use Rattle.decode_listed.specs.Inner.Suspects.{lost_product, cleared_sums}
use Rattle.decode_listed.proofs.Suspected.{product_below, product_long}
use Rattle.decode_listed.proofs.erased.Erased.cleared.Goals as goal
use Rattle.decode_listed.proofs.erased.Erased.cleared.Goals.{After-points-list, After-product-product, Start}

-- the lost nodes' points are symbols
points_are : (c : Start) → let a = c.args.self in let codec = a.syndrome.codec in SymbolList (modulus codec.field.field) (points_of (modulus codec.field.field) codec.code.header.root 0 a.lost.now)
points_are c =
    let a = c.args.self in
    let codec = a.syndrome.codec in
    points_symbols _ codec.code.header.root 0 a.lost.now (usable_field _ codec.field.usable) (rw codec.same codec.code.sound.root_below) (omega (arith, a.are.room, codec.code.sound.byte))

-- the points as they are lent
points-part : (c : After-points-list) → let a = c.args.self in let codec = a.syndrome.codec in take (length a.lost.now) c.points-list.result ≡ points_of (modulus codec.field.field) codec.code.header.root 0 a.lost.now
points-part c = rw c.points-list.ensures (take_padded 255 _ _ (length_points _ c.args.self.syndrome.codec.code.header.root 0 c.args.self.lost.now))

-- and the product over them
product-part : (c : After-product-product) → let a = c.args.self in take (length a.lost.now + 1) c.product-product.result ≡ lost_product a.syndrome.codec.code.header a.lost.now
unfolding lost_product
product-part c =
    let a = c.args.self in
    let codec = a.syndrome.codec in
    let p = modulus codec.field.field in
    let xs = points_of p codec.code.header.root 0 a.lost.now in
    rw (c.product-product.ensures, points-part (goal.at.After-product-product c).After-points-list, ← codec.same) (take_padded 256 (length a.lost.now + 1) (product_of p xs) (omega (arith, length_product_of p xs, length_points p codec.code.header.root 0 a.lost.now)))

pub invariant_of-points : goal.invariant_of-points
invariant_of-points c = record { symbols = rw (points-part (goal.at.invariant_of-points c).After-points-list) (points_are (goal.at.invariant_of-points c).Start) }

pub sums_from-requires : goal.sums_from-requires
sums_from-requires c =
    let a = c.args.self in
    let codec = a.syndrome.codec in
    let sound = codec.code.sound in
    let checks = c.checks.ensures in
    rw (product-part (goal.at.sums_from-requires c).After-product-product, codec.same)
    (product_below codec.code.header sound a.lost.now a.are, a.syndrome.symbols, omega (arith, product_long codec.code.header sound a.lost.now a.are, checks, sound.byte, sound.some, a.are.room), omega (arith, checks, sound.byte))

pub returns : goal.returns
unfolding cleared_sums
returns c = c.sums_from.ensures ∙ rw (product-part (goal.at.returns c).After-product-product, c.args.self.syndrome.codec.same, c.checks.ensures)
