-- `quotient` meets its contract. Invariant: q is coefficient i of the quotient, and the coefficients from i on are written.
use mathlib.Core.Path.{◌≡◌, refl, ◌∙◌}
use Prim.Native.Nat.{◌<◌}
use native.Mathlib.Omega.{arith}
use lib.ListN.{length}
use Rattle.lists.specs.Padded.{zeros}
use Rattle.lists.proofs.Fill.{back_start, back_put, back_done}
use Rattle.lists.proofs.Numbers.{below_at}
use Rattle.field.proofs.KindLaws.{usable_field}
use Rattle.field.specs.Kinds.{modulus}
use Rattle.interpolation.specs.Inner.Polynomials.{quotient_of}
use Rattle.interpolation.proofs.Coefficients.{length_quotient_of, quotient_of_next, quotient_of_end, dividing_start, dividing_next, dividing_below}
use Rattle.interpolation.proofs.polynomials.Polynomial.quotient.Goals as goal

pub loop-i-init : goal.loop-i-init
unfolding zeros
loop-i-init c =
    let a = c.args in
    let cs = a.self.coefficients.now in
    let none = quotient_of_end (modulus a.self.field.field) a.a cs in
    (dividing_start _ a.a cs, rw none (back_start 255 (length cs) c.args.self.symbols.short))

pub multiply_add-q-requires : goal.multiply_add-q-requires
multiply_add-q-requires c =
    let cs = c.args.self.coefficients.now in
    let below = c.args.self.symbols.below in
    let dividing = c.loop-i.invariant.0 in
    (c.requires, dividing_below _ (usable_field _ c.args.self.field.usable) dividing c.requires below, below_at _ cs below _ (omega (arith, dividing.some)))

pub loop-i-preserved : goal.loop-i-preserved
loop-i-preserved c =
    let a = c.args in
    let l = c.loop-i in
    let pos : 0 < l.i = omega arith in
    let next = dividing_next _ l.invariant.0 pos c.multiply_add-q.ensures.is in
    (next, rw (l.invariant.1, next.first, quotient_of_next _ a.a a.self.coefficients.now l.i pos l.invariant.0.some) (back_put l.i _ _ pos))

pub returns : goal.returns
returns c =
    let a = c.args in
    let l = c.loop-i in
    let end : l.i ≡ 0 = omega arith in
    let cs = a.self.coefficients.now in
    l.invariant.1 ∙ rw end (back_done 255 (length cs) 0 (quotient_of (modulus a.self.field.field) a.a cs) refl (length_quotient_of _ _ cs))
