-- `mul` of bytes meets its contract: the exponents add, and 0 times a byte is 0.
use mathlib.Core.Path.{◌∙◌}
use native.Mathlib.Omega.{arith}
use Rattle.field.specs.Fields.{size_of}
use Rattle.field.proofs.TableLaws.{zero_times, times_zero, reduced, exponents_add}
use Rattle.field.proofs.gf256.Gf256FieldKind.mul.Goals as goal

pub returns-then-a-eq-ZERO : goal.returns-then-a-eq-ZERO
unfolding size_of
returns-then-a-eq-ZERO c = zero_times _ c.requires.2 c.if-a-eq-ZERO.true

pub returns-then-b-eq-ZERO : goal.returns-then-b-eq-ZERO
unfolding size_of
returns-then-b-eq-ZERO c = times_zero _ c.requires.1 c.if-b-eq-ZERO.true

pub logarithm-requires : goal.logarithm-requires
unfolding size_of
logarithm-requires c = (omega arith, c.requires.1)

pub logarithm-requires-2 : goal.logarithm-requires-2
unfolding size_of
logarithm-requires-2 c = (omega arith, c.requires.2)

pub returns : goal.returns
returns c = c.power.ensures ∙ rw c.reduced.ensures (reduced _ (omega arith)) ∙ exponents_add _ _ c.logarithm.ensures.inverts c.logarithm-2.ensures.inverts
