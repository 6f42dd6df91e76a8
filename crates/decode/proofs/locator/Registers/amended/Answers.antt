-- `amended` meets its contract. Invariant: the first x coefficients are written.
use mathlib.Core.Path.{ap, ap₂, ◌∙◌}
use Rattle.lists.proofs.Fill.{filled_put}
use Rattle.field.specs.Fields.{mul, sub}
use Rattle.field.specs.Kinds.{modulus}
use Rattle.field.proofs.FieldOf.{size_pos}
use Rattle.field.proofs.KindLaws.{usable_field}
use Rattle.decode.specs.Inner.Locating.{amended_at}
use Rattle.decode.proofs.Arrays.{shifted_below}
use Rattle.decode.proofs.locator.Registers.amended.Goals as goal

pub mul-product-requires : goal.mul-product-requires
mul-product-requires c =
    let a = c.args in
    (c.requires.0, rw c.at.ensures (shifted_below _ a.self.v.now a.j c.loop-x.x (size_pos _ (usable_field _ a.self.field.usable)) a.self.before))

pub sub-requires : goal.sub-requires
sub-requires c =
    let a = c.args in
    (rw c.at-in-loop-x.ensures (shifted_below _ a.self.w.now a.i c.loop-x.x (size_pos _ (usable_field _ a.self.field.usable)) a.self.at_hand), c.mul-product.ensures.symbol)

pub loop-x-preserved : goal.loop-x-preserved
unfolding amended_at
loop-x-preserved c =
    let a = c.args in
    let p = modulus a.self.field.field in
    filled_put c.loop-x.invariant c.loop-x-test.true
    (c.sub.ensures.is ∙ ap₂ (sub p) c.at-in-loop-x.ensures (c.mul-product.ensures.is ∙ ap (mul p a.d) c.at.ensures))
