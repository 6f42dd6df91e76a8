-- `errors_from` meets its contract. Invariant: the errors at the first i points are written.
use mathlib.Core.Path.{sym, ap, ◌∙◌}
use Rattle.lists.proofs.Fill.{filled_put}
use Rattle.lists.proofs.Numbers.{below_at}
use Rattle.field.specs.Kinds.{modulus}
use Rattle.interpolation.proofs.Values.{get_or_scales}
use Rattle.decode.specs.Inner.Errors.{error_of}
use Rattle.decode.proofs.errors.errors_from.Goals as goal

pub error_at-requires : goal.error_at-requires
error_at-requires c =
    rw c.requires (below_at _ _ c.args.points.symbols.below _ c.loop-i-test.true, c.scale_at.ensures.symbol)

pub loop-i-preserved : goal.loop-i-preserved
loop-i-preserved c =
    let a = c.args in
    let p = modulus a.points.field.field in
    let xs = a.points.points.now in
    let scale = c.scale_at.ensures.is ∙ sym (get_or_scales p xs c.loop-i.i c.loop-i-test.true) in
    let is = rw c.requires at c.error_at.ensures.is in
    filled_put c.loop-i.invariant c.loop-i-test.true (is ∙ ap (error_of p _ _ _) scale)
