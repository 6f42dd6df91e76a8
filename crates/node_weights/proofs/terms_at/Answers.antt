-- `terms_at` meets its contract: it lends the k coefficients of the rows' product and of the inverses.
use mathlib.Core.Path.{◌≡◌, refl, sym, ◌∙◌}
use Prim.Native.Nat.{◌+◌, ◌-◌, ◌≤◌}
use native.Mathlib.Omega.{arith}
use lib.ListN.{length, take, drop}
use Rattle.lists.proofs.Padding.{length_padded, take_padded, part_padded}
use Rattle.generator.specs.Records.{modulus_of}
use Rattle.interpolation.specs.Inner.Polynomials.{product_of}
use Rattle.interpolation.proofs.Coefficients.{length_product_of}
use Rattle.node_weights.specs.Inner.Rows.{basis_of, row_points, base_inverses}
use Rattle.node_weights.proofs.Parts.{Symbols, parts, row_symbols, base_symbols}
use Rattle.node_weights.proofs.terms_at.Goals as goal
use Rattle.node_weights.proofs.terms_at.Goals.{Start}

few : (c : Start) → c.args.codec.code.header.k ≤ 255
few c = let s = c.args.codec.code.sound in omega (arith, s.fits, s.byte)

-- the coefficients of the product, without the constant
product-size : (c : Start) → let h = c.args.codec.code.header in length (product_of (modulus_of h) (row_points h)) ≡ h.k + 1
product-size c =
    omega (arith, length_product_of (modulus_of c.args.codec.code.header) (row_points c.args.codec.code.header), (row_symbols c.args.codec.code.header c.args.codec.code.sound (few c)).size)

product_is : (c : Start)
    → let a = c.args in
    let q = drop 1 (product_of (modulus_of a.codec.code.header) (row_points a.codec.code.header)) in
    (take (a.codec.code.header.k + 1 - 1) (drop 1 a.product.now) ≡ q) × Symbols (modulus_of a.codec.code.header) a.codec.code.header.k q
product_is c =
    let h = c.args.codec.code.header in
    (rw c.requires.0 (part_padded 256 (h.k + 1) 1 (product_of (modulus_of h) (row_points h)) (product-size c) (omega arith)), (parts (modulus_of h) c.args.codec.code.sound.field h.k (row_points h) (basis_of (modulus_of h) (row_points h)) (row_symbols h c.args.codec.code.sound (few c)) refl).some_product)

whole : (c : Start) → length c.args.product.now ≡ 256
whole c = rw c.requires.0 (length_padded 256 _ (omega (arith, product-size c, few c)))

-- the inverses
inverses-are : (c : Start)
    → let a = c.args in
    (take a.codec.code.header.k a.base.now ≡ base_inverses a.codec.code.header) × Symbols (modulus_of a.codec.code.header) a.codec.code.header.k (base_inverses a.codec.code.header)
inverses-are c =
    let b = base_symbols c.args.codec.code.header c.args.codec.code.sound (few c) in
    (rw c.requires.1 (take_padded 255 _ _ b.size), b)

pub slice_bounds-polynomial-end : goal.slice_bounds-polynomial-end
slice_bounds-polynomial-end c = let w = (goal.at.slice_bounds-polynomial-end c).Start in omega (arith, whole w, few w)

pub invariant_of-polynomial : goal.invariant_of-polynomial
invariant_of-polynomial c =
    let q = product_is (goal.at.invariant_of-polynomial c).Start in
    record { symbols = rw (c.args.codec.same, q.0) q.1.are }

pub slice_bounds-quotient_terms-end : goal.slice_bounds-quotient_terms-end
slice_bounds-quotient_terms-end c = let b = inverses-are (goal.at.slice_bounds-quotient_terms-end c).Start in rw b.0 (sym b.1.size)

pub invariant_of-quotient_terms : goal.invariant_of-quotient_terms
invariant_of-quotient_terms c =
    let q = product_is (goal.at.invariant_of-quotient_terms c).Start in
    let b = inverses-are (goal.at.invariant_of-quotient_terms c).Start in
    record { symbols = rw (c.args.codec.same, b.0) b.1.are; as_many = rw (q.0, b.0) (b.1.size ∙ sym q.1.size) }

pub quotient_terms-requires : goal.quotient_terms-requires
quotient_terms-requires c = rw c.args.codec.same c.requires.2

pub returns : goal.returns
returns c = c.quotient_terms.ensures ∙ rw (c.args.codec.same, (product_is (goal.at.returns c).Start).0, (inverses-are (goal.at.returns c).Start).0)
