-- `Recurrence::first` meets its contract. Invariant: y is root^i after i turns, and the product has the factors below i.
use mathlib.Core.Path.{◌≡◌, refl, sym, ap, ◌∙◌}
use Prim.Native.Nat.{◌-◌}
use native.Mathlib.Nat.{zero-add}
use native.Mathlib.Omega.{arith}
use Rattle.field.specs.Fields.{mul, power}
use Rattle.field.proofs.Bounds.{one_below, power_below}
use Rattle.field.proofs.KindLaws.{usable_field}
use Rattle.generator.specs.Generator.{base_from, base_at}
use Rattle.field.proofs.Powers.{power_next}
use Rattle.generator.proofs.BaseWord.{base_from_next, entry_is}
use Rattle.plan.proofs.base.Recurrence.first.Goals as goal

pub loop-init : goal.loop-init
unfolding power base_from
loop-init c =
    let one = one_below _ (usable_field _ c.args.self.codec.field.usable) in (one, one, refl, λ h f r. refl)

pub sub-requires : goal.sub-requires
sub-requires c =
    let r = c.args.self in
    let s = r.codec.code.sound in (rw (r.codec.same, r.scale_is) (power_below _ s.field _ s.root_below), c.loop.invariant.1)

pub loop-preserved : goal.loop-preserved
loop-preserved c =
    let l = c.loop in (
      c.mul-product.ensures.symbol,
      c.mul-y.ensures.symbol,
      c.mul-y.ensures.is ∙ ap (mul _ _) l.invariant.2 ∙ sym (power_next _ _ l.counter),
      λ h f r. rw (base_from_next l.counter h c.args.self.scale, ← l.invariant.3 h f r, c.mul-product.ensures.is, c.sub.ensures.is, l.invariant.2, f, r),
    )

pub returns : goal.returns
unfolding base_at
returns c =
    let r = c.args.self in
    let h = r.codec.code.header in
    let l = c.loop in
    let end : l.counter ≡ h.k - 1 = omega arith in
    l.invariant.3 h (sym r.codec.same) refl ∙ rw (end, r.scale_is, entry_is h r.codec.code.sound 0, zero-add)
