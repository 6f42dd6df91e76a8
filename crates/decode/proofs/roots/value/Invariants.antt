-- `value` meets its contract. Invariant: the value of the coefficients that are done, a symbol.
use mathlib.Core.Path.{◌≡◌}
use Prim.Native.Nat.{◌<◌}
use Rattle.field.specs.Fields.{size_of}
use Rattle.field.specs.Kinds.{modulus}
use Rattle.generator.specs.Codewords.{poly_at}
use Rattle.interpolation.proofs.FromEnd.{FromEnd}
use Rattle.decode.proofs.roots.value.Given as goal

abbrev pub invariant-loop-c : goal.invariant-loop-c
invariant-loop-c l =
    let p = modulus l.polynomial.field.field in
    (l.sum < size_of p) × FromEnd l.polynomial.coefficients.now l.c-iterator.iter.rest.now (λ cs. l.sum ≡ poly_at p cs l.x)
