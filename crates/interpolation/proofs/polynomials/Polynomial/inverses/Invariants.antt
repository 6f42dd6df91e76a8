-- `inverses` meets its contract. Invariant: the first i inverses are written.
use lib.ListN.{length, get_or}
use Rattle.lists.proofs.Fill.{Filled}
use Rattle.field.specs.Fields.{inverse}
use Rattle.field.specs.Kinds.{modulus}
use Rattle.interpolation.proofs.polynomials.Polynomial.inverses.Given as goal

abbrev pub invariant-loop-i : goal.invariant-loop-i
invariant-loop-i l = Filled 255 (length l.self.coefficients.now) (λ j. inverse (modulus l.self.field.field) (get_or l.self.coefficients.now j 0)) l.i l.out
