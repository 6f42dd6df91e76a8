-- `inverse` of bytes meets its contract: the exponents of a byte and of its inverse make 255.
use mathlib.Core.Path.{sym, ap, ◌∙◌}
use Prim.Native.Nat.{ℕ, ◌-◌}
use native.Mathlib.Omega.{arith}
use Rattle.field.specs.Fields.{size_of, power, inverse}
use Rattle.field.proofs.Inverse.{inverse_zero}
use Rattle.field.proofs.Meanings.{byte_field}
use Rattle.field.proofs.TableLaws.{two_255, negative}
use Rattle.field.proofs.gf256.Gf256FieldKind.inverse.Goals as goal

pub returns-then-a-eq-ZERO : goal.returns-then-a-eq-ZERO
returns-then-a-eq-ZERO c = sym (ap (inverse 0) c.if-a-eq-ZERO.true ∙ inverse_zero 0 byte_field)

pub logarithm-e-requires : goal.logarithm-e-requires
unfolding size_of
logarithm-e-requires c = (omega arith, c.requires.2)

pub returns-then-e-eq0 : goal.returns-then-e-eq0
unfolding size_of
returns-then-e-eq0 c =
    let log = c.logarithm-e.ensures in
    sym two_255 ∙ ap (λ (e : ℕ). power 0 2 (255 - e)) (sym c.if-e-eq0.true) ∙ negative _ log.below c.requires.2 log.inverts

pub returns-else-e-eq0 : goal.returns-else-e-eq0
unfolding size_of
returns-else-e-eq0 c = let log = c.logarithm-e.ensures in c.power.ensures ∙ negative _ log.below c.requires.2 log.inverts
