-- `errors` meets its contract: the nodes' points and the product over them, lent as parts, give the errors.
use Rattle.std.proofs.Common.{rules}
use mathlib.Core.Path.{◌≡◌, refl, sym, ◌∙◌}
use Prim.Native.Nat.{◌+◌, ◌-◌}
use native.Mathlib.Omega.{arith}
use lib.ListN.{length, take, drop}
use Rattle.lists.proofs.Numbers.{below_take}
use Rattle.lists.proofs.Padding.{take_padded, part_padded}
use Rattle.field.specs.Kinds.{modulus}
use Rattle.field.proofs.KindLaws.{usable_field}
use Rattle.interpolation.specs.Inner.Points.{points_of}
use Rattle.interpolation.specs.Inner.Polynomials.{product_of}
use Rattle.interpolation.proofs.Points.{length_points, points_symbols}
use Rattle.interpolation.proofs.Coefficients.{length_product_of}
use Rattle.node_weights.specs.Inner.Rows.{basis_of}
use Rattle.node_weights.proofs.Parts.{Symbols, parts}
use Rattle.decode.proofs.Arrays.{symbols_all}
use Rattle.decode.specs.Inner.Errors.{errors_of}
use Rattle.decode.proofs.Syndrome.errors.Goals as goal
use Rattle.decode.proofs.Syndrome.errors.Goals.{After-points-list, After-product-product, Start}

-- the nodes' points are symbols, as many as there are nodes
points_are : (c : Start) → let a = c.args in Symbols (modulus a.self.codec.field.field) (length a.nodes.now) (points_of (modulus a.self.codec.field.field) a.self.codec.code.header.root 0 a.nodes.now)
points_are c =
    let a = c.args in
    let s = c.requires in
    record { are = points_symbols _ a.self.codec.code.header.root 0 a.nodes.now (usable_field _ a.self.codec.field.usable) (rw a.self.codec.same a.self.codec.code.sound.root_below) s; size = length_points _ a.self.codec.code.header.root 0 a.nodes.now }

-- the points as they are lent
points-part : (c : After-points-list) → let a = c.args in take (length a.nodes.now) c.points-list.result ≡ points_of (modulus a.self.codec.field.field) a.self.codec.code.header.root 0 a.nodes.now
points-part c = rw c.points-list.ensures (take_padded 255 _ _ (points_are (goal.at.After-points-list c).Start).size)

-- and the product over them, without its constant
product-part : (c : After-product-product)
    → let a = c.args in
    let q = drop 1 (product_of (modulus a.self.codec.field.field) (points_of (modulus a.self.codec.field.field) a.self.codec.code.header.root 0 a.nodes.now)) in
    (take (length a.nodes.now + 1 - 1) (drop 1 c.product-product.result) ≡ q) × Symbols (modulus a.self.codec.field.field) (length a.nodes.now) q
product-part c =
    let a = c.args in
    let p = modulus a.self.codec.field.field in
    let xs = points_of p a.self.codec.code.header.root 0 a.nodes.now in
    let s = points_are (goal.at.After-product-product c).Start in
    (rw (c.product-product.ensures, points-part (goal.at.After-product-product c).After-points-list) (part_padded 256 (length a.nodes.now + 1) 1 (product_of p xs) (omega (arith, length_product_of p xs, s.size)) (omega arith)), (parts p (usable_field _ a.self.codec.field.usable) (length a.nodes.now) xs (basis_of p xs) s refl).some_product)

pub invariant_of-points : goal.invariant_of-points
invariant_of-points c = record { symbols = rw (points-part (goal.at.invariant_of-points c).After-points-list) (points_are (goal.at.invariant_of-points c).Start).are }

pub invariant_of-polynomial : goal.invariant_of-polynomial
invariant_of-polynomial c = let q = product-part (goal.at.invariant_of-polynomial c).After-product-product in record { symbols = rw q.0 q.1.are }

pub invariant_of-dividend : goal.invariant_of-dividend
invariant_of-dividend c =
    let a = c.args in
    let size : length (take (length a.nodes.now) a.self.sums.now) ≡ length a.nodes.now = search rules in
    let q = product-part (goal.at.invariant_of-dividend c).After-product-product in
    let below = below_take _ (length a.nodes.now) a.self.sums.now (symbols_all _ a.self.sums.now a.self.symbols) in
    record { symbols = record { below = rw a.self.codec.same below; short = omega (arith, size, c.requires) }; as_many = size ∙ sym (rw q.0 q.1.size) }

pub returns : goal.returns
unfolding errors_of
returns c = c.errors_from.ensures ∙ rw (← c.args.self.codec.same, points-part (goal.at.returns c).After-points-list, (product-part (goal.at.returns c).After-product-product).0)
