-- `inverses` meets its contract. Invariant: the first i inverses are written.
use mathlib.Core.Path.{sym, ap, ◌∙◌}
use Rattle.lists.specs.Padded.{padded}
use Rattle.lists.proofs.Fill.{filled_put, filled_end}
use Rattle.lists.proofs.Places.{map_from}
use Rattle.field.specs.Fields.{inverse}
use Rattle.field.specs.Kinds.{modulus}
use Rattle.interpolation.specs.Inner.Polynomials.{inverses_of}
use Rattle.interpolation.proofs.polynomials.Polynomial.inverses.Goals as goal

pub loop-i-preserved : goal.loop-i-preserved
loop-i-preserved c = filled_put c.loop-i.invariant c.loop-i-test.true c.inverse.ensures.is

pub returns : goal.returns
unfolding inverses_of
returns c =
    let a = c.args in
    filled_end c.loop-i.invariant c.loop-i-test.false ∙ ap (padded 255) (sym (map_from (inverse (modulus a.self.field.field)) a.self.coefficients.now))
