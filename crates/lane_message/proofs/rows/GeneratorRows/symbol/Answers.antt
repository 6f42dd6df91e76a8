-- `symbol` meets its contract.
use mathlib.Core.Path.{◌≡◌, sym, ap, ap₂, ◌∙◌}
use mathlib.Core.Bool.{true}
use native.Mathlib.Omega.{arith}
use lib.ListN.{length, take}
use Rattle.lists.specs.Numbers.{all_below}
use Rattle.lists.specs.Padded.{padded}
use Rattle.lists.proofs.Padding.{take_padded, length_padded, below_padded}
use Rattle.field.specs.Fields.{mul, inverse}
use Rattle.field.proofs.FieldOf.{size_pos}
use Rattle.field.specs.Inner.Sums.{dot}
use Rattle.generator.specs.Records.{modulus_of, size}
use Rattle.node_weights.specs.Inner.Rows.{row_points, row_terms}
use Rattle.node_weights.proofs.Parts.{Symbols, row_symbols, term_symbols}
use Rattle.lane_message.specs.Inner.Symbols.{coefficients_of, symbol_from}
use Rattle.interpolation.proofs.PaddedSums.{dot_padded}
use Rattle.lane_message.proofs.Reading.{length_coefficients, coefficients_below}
use Rattle.lane_message.proofs.Points.{few}
use Rattle.lane_message.proofs.rows.GeneratorRows.symbol.Goals as goal
use Rattle.lane_message.proofs.rows.GeneratorRows.symbol.Goals.{After-coefficients-coefficients, After-points-points, After-terms-terms, After-weighted_sum-sum, Start}

-- the points of the rows, lent as a part
points : (c : After-points-points)
    → let h = c.args.self.transform.powers.codec.code.header in
    (take h.k c.points-points.result ≡ row_points h) × Symbols (modulus_of h) h.k (row_points h)
points c =
    let s = row_symbols c.args.self.transform.powers.codec.code.header c.args.self.transform.powers.codec.code.sound (few _ c.args.self.transform.powers.codec.code.sound) in
    (rw c.points-points.ensures (take_padded 255 _ _ s.size), s)

-- the terms of the row
terms : (c : After-terms-terms)
    → let a = c.args in
    (take a.self.transform.powers.codec.code.header.k c.terms-terms.result ≡ row_terms a.self.transform.powers.codec.code.header a.r) × Symbols (modulus_of a.self.transform.powers.codec.code.header) a.self.transform.powers.codec.code.header.k (row_terms a.self.transform.powers.codec.code.header a.r)
terms c =
    let s = term_symbols c.args.self.transform.powers.codec.code.header c.args.self.transform.powers.codec.code.sound (few _ c.args.self.transform.powers.codec.code.sound) c.args.r c.requires.2 in
    (rw c.terms-terms.ensures (take_padded 255 _ _ s.size), s)

-- the coefficients
coefficients : (c : After-coefficients-coefficients)
    → let a = c.args in
    (c.coefficients-coefficients.result ≡ padded 255 (coefficients_of a.self.transform.powers.codec.code.header a.spectrum.now)) × (all_below (size a.self.transform.powers.codec.code.header) (coefficients_of a.self.transform.powers.codec.code.header a.spectrum.now) ≡ true)
unfolding coefficients_of
coefficients c =
    (rw c.requires.0 at c.coefficients-coefficients.ensures, coefficients_below c.args.self.transform.powers.codec.code.header c.args.self.transform.powers.codec.code.sound c.args.spectrum.now c.requires.0 c.requires.1)

-- their sum with the terms
sum : (c : After-weighted_sum-sum)
    → let a = c.args in
    c.weighted_sum-sum.result ≡ dot (modulus_of a.self.transform.powers.codec.code.header) (row_terms a.self.transform.powers.codec.code.header a.r) (coefficients_of a.self.transform.powers.codec.code.header a.spectrum.now)
sum c =
    let t = terms (goal.at.After-weighted_sum-sum c).After-terms-terms in
    let k = coefficients (goal.at.After-weighted_sum-sum c).After-coefficients-coefficients in
    let h = c.args.self.transform.powers.codec.code.header in
    let cs = coefficients_of h c.args.spectrum.now in
    c.weighted_sum-sum.ensures.is
    ∙ rw c.args.self.transform.powers.codec.same
    (ap₂ (dot (modulus_of h)) t.0 k.0 ∙ dot_padded (modulus_of h) 255 (row_terms h c.args.r) cs (t.1.size ∙ sym (length_coefficients h c.args.spectrum.now)))

pub terms-terms-requires : goal.terms-terms-requires
terms-terms-requires c =
    ((points (goal.at.terms-terms-requires c).After-points-points).0, c.requires.2)

pub weighted_sum-sum-requires : goal.weighted_sum-sum-requires
weighted_sum-sum-requires c =
    let t = terms (goal.at.weighted_sum-sum-requires c).After-terms-terms in
    let k = coefficients (goal.at.weighted_sum-sum-requires c).After-coefficients-coefficients in
    (rw (c.args.self.transform.powers.codec.same, t.0) t.1.are.below, rw (c.args.self.transform.powers.codec.same, k.0) (below_padded _ 255 _ (size_pos _ c.args.self.transform.powers.codec.code.sound.field) k.1), omega (arith, ap length t.0, t.1.size, ap length k.0, length_padded 255 (coefficients_of c.args.self.transform.powers.codec.code.header c.args.spectrum.now) (omega (arith, length_coefficients c.args.self.transform.powers.codec.code.header c.args.spectrum.now, few _ c.args.self.transform.powers.codec.code.sound)), few _ c.args.self.transform.powers.codec.code.sound))

pub invariant_of-scale_at : goal.invariant_of-scale_at
invariant_of-scale_at c =
    let q = points (goal.at.invariant_of-scale_at c).After-points-points in
    record { symbols = rw (c.args.self.transform.powers.codec.same, q.0) q.1.are }

pub returns : goal.returns
unfolding symbol_from
returns c =
    let q = points (goal.at.returns c).After-points-points in
    c.mul.ensures.is
    ∙ rw c.args.self.transform.powers.codec.same
    (ap₂ (mul _) (c.scale_at-scale.ensures.is ∙ rw (c.args.self.transform.powers.codec.same, q.0))
    (c.mul-part.ensures.is
    ∙ rw c.args.self.transform.powers.codec.same
    (ap₂ (mul _) (c.inverse-over.ensures.is ∙ rw c.args.self.transform.powers.codec.same (ap (inverse _) (c.ones.ensures.is ∙ rw c.args.self.transform.powers.codec.same))) (sum (goal.at.returns c).After-weighted_sum-sum))))
