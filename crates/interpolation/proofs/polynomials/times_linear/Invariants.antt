-- `times_linear` meets its contract. Invariant: the first coefficients are written, and `last` is carried over to the next.
use Prim.Native.Nat.{◌<◌}
use lib.ListN.{drop}
use Rattle.lists.proofs.Fill.{Fills}
use Rattle.field.specs.Fields.{size_of}
use Rattle.field.specs.Kinds.{modulus}
use Rattle.interpolation.specs.Inner.Polynomials.{carried}
use Rattle.interpolation.proofs.polynomials.times_linear.Given as goal

abbrev pub invariant-loop-c : goal.invariant-loop-c
invariant-loop-c l = (l.last < size_of (modulus l.field.field)) × Fills l.initial.coefficients l.coefficients l.c-index (carried (modulus l.field.field) l.a l.last (drop l.c-index l.initial.coefficients)) (carried (modulus l.field.field) l.a 0 l.initial.coefficients)
