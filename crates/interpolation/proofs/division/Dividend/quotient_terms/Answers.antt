-- `quotient_terms` meets its contract: the quotient, lent as a part, times the weights.
use mathlib.Core.Path.{◌≡◌, sym, ◌∙◌}
use lib.ListN.{length, take}
use Rattle.lists.proofs.Padding.{take_padded}
use Rattle.field.specs.Kinds.{modulus}
use Rattle.field.proofs.KindLaws.{usable_field}
use Rattle.interpolation.specs.Inner.Polynomials.{quotient_of}
use Rattle.interpolation.proofs.Coefficients.{length_quotient_of, quotient_of_symbols}
use Rattle.interpolation.proofs.division.Dividend.quotient_terms.Goals as goal
use Rattle.interpolation.proofs.division.Dividend.quotient_terms.Goals.{After-quotient-q}

-- the quotient as it is lent
part : (c : After-quotient-q)
    → let a = c.args in
    take (length a.self.weights.now) c.quotient-q.result ≡ quotient_of (modulus a.self.polynomial.field.field) a.a a.self.polynomial.coefficients.now
part c = rw c.quotient-q.ensures (take_padded 255 _ _ (length_quotient_of _ _ c.args.self.polynomial.coefficients.now ∙ sym c.args.self.as_many))

pub products-requires : goal.products-requires
products-requires c =
    let w = c.args.self in
    rw (part (goal.at.products-requires c).After-quotient-q) (quotient_of_symbols _ (usable_field _ c.args.self.polynomial.field.usable) c.args.a c.args.self.polynomial.symbols c.requires, w.symbols, w.as_many ∙ sym (length_quotient_of _ _ _))

pub returns : goal.returns
returns c = c.products.ensures ∙ rw (part (goal.at.returns c).After-quotient-q)
