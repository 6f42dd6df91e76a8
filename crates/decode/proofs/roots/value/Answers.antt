-- `value` meets its contract. Invariant: the value of the coefficients that are done, a symbol.
use mathlib.Core.Path.{◌≡◌}
use Rattle.field.proofs.FieldOf.{size_pos}
use Rattle.field.proofs.KindLaws.{usable_field}
use Rattle.interpolation.proofs.FromEnd.{from_end_start, next_below, from_end_next}
use Rattle.decode.proofs.Values.{horner_none, horner_next}
use Rattle.decode.proofs.roots.value.Goals as goal

pub loop-c-init : goal.loop-c-init
loop-c-init c =
    let a = c.args in
    let start : c.into_iter-c-iterator.result.iter.rest.now ≡ a.polynomial.coefficients.now = cc in
    (size_pos _ (usable_field _ a.polynomial.field.usable), rw start (from_end_start _ _ (horner_none _ _)))

-- the coefficient is a symbol
pub multiply_add-sum-requires : goal.multiply_add-sum-requires
multiply_add-sum-requires c =
    (c.requires, c.loop-c.invariant.0, rw c.from.ensures (next_below _ _ c.in-Some.ensures.steps c.loop-c.invariant.1 _ c.args.polynomial.symbols.below))

pub loop-c-preserved : goal.loop-c-preserved
loop-c-preserved c =
    let now = c.loop-c.invariant.1 in
    let a = c.args in
    let symbol = next_below _ _ c.in-Some.ensures.steps now _ a.polynomial.symbols.below in
    let next = horner_next _ _ (usable_field _ a.polynomial.field.usable) c.requires _ now.done _ symbol c.loop-c.invariant.0 now.holds in
    (c.multiply_add-sum.ensures.symbol, from_end_next _ _ c.in-Some.ensures.steps now _ (rw (c.multiply_add-sum.ensures.is, c.from.ensures) next))
