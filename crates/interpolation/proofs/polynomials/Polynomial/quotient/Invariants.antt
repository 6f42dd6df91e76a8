-- `quotient` meets its contract. Invariant: q is coefficient i of the quotient, and the coefficients from i on are written.
use mathlib.Core.Path.{◌≡◌}
use mathlib.Core.List.{◌++◌}
use Prim.Native.Nat.{◌-◌}
use lib.ListN.{length, drop}
use Rattle.lists.specs.Padded.{zeros}
use Rattle.field.specs.Kinds.{modulus}
use Rattle.interpolation.specs.Inner.Polynomials.{quotient_of}
use Rattle.interpolation.proofs.Coefficients.{Dividing}
use Rattle.interpolation.proofs.polynomials.Polynomial.quotient.Given as goal

abbrev pub invariant-loop-i : goal.invariant-loop-i
invariant-loop-i l =
    let p = modulus l.self.field.field in
    let cs = l.self.coefficients.now in
    Dividing p l.a cs l.i l.q × (l.out ≡ zeros l.i ++ (quotient_of p l.a (drop l.i cs) ++ zeros (255 - length cs)))
