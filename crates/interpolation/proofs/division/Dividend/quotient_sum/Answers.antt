-- `quotient_sum` meets its contract: the weights times the quotient, after which zeros follow.
use mathlib.Core.Path.{sym, ◌∙◌}
use native.Mathlib.Omega.{arith}
use Rattle.lists.proofs.Padding.{length_padded, below_padded}
use Rattle.field.specs.Kinds.{modulus}
use Rattle.field.proofs.FieldOf.{size_pos}
use Rattle.field.proofs.KindLaws.{usable_field}
use Rattle.interpolation.specs.Inner.Polynomials.{quotient_of}
use Rattle.interpolation.proofs.Coefficients.{length_quotient_of, quotient_of_symbols}
use Rattle.interpolation.proofs.PaddedSums.{dot_padded}
use Rattle.interpolation.proofs.division.Dividend.quotient_sum.Goals as goal

pub weighted_sum-requires : goal.weighted_sum-requires
weighted_sum-requires c =
    let v = usable_field _ c.args.self.polynomial.field.usable in
    let q = quotient_of_symbols _ v c.args.a c.args.self.polynomial.symbols c.requires in
    rw c.quotient-q.ensures (c.args.self.symbols.below, below_padded _ 255 _ (size_pos _ v) q.below, omega (arith, c.args.self.symbols.short, length_padded 255 (quotient_of (modulus c.args.self.polynomial.field.field) c.args.a c.args.self.polynomial.coefficients.now) q.short))

pub returns : goal.returns
returns c =
    record {
      is = c.weighted_sum.ensures.is ∙ rw c.quotient-q.ensures (dot_padded _ 255 c.args.self.weights.now _ (c.args.self.as_many ∙ sym (length_quotient_of _ _ _)));
      symbol = c.weighted_sum.ensures.symbol;
    }
