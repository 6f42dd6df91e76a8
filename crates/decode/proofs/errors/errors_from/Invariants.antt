-- `errors_from` meets its contract. Invariant: the errors at the first i points are written.
use lib.ListN.{length, get_or}
use Rattle.lists.proofs.Fill.{Filled}
use Rattle.field.specs.Kinds.{modulus}
use Rattle.interpolation.specs.Inner.Lagrange.{scales_of}
use Rattle.decode.specs.Inner.Errors.{error_of}
use Rattle.decode.proofs.errors.errors_from.Given as goal

abbrev pub invariant-loop-i : goal.invariant-loop-i
invariant-loop-i l =
    let p = modulus l.points.field.field in
    let xs = l.points.points.now in
    Filled 255 (length xs) (λ j. error_of p l.product.polynomial.coefficients.now l.product.weights.now (get_or xs j 0) (get_or (scales_of p xs) j 0)) l.i l.out
