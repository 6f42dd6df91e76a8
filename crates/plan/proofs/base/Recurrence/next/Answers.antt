-- `Recurrence::next` meets its contract, by the recurrence of p.
use mathlib.Core.Path.{◌≡◌, sym, ap, ◌∙◌}
use Prim.Native.Nat.{ℕ, ◌<◌}
use Rattle.field.specs.Fields.{mul}
use Rattle.field.proofs.BothKinds.{arithmetic}
use Rattle.field.proofs.Bounds.{power_below}
use Rattle.field.proofs.KindLaws.{usable_field}
use Rattle.field.specs.Fields.{size_of}
use Rattle.field.specs.Kinds.{modulus}
use Rattle.generator.specs.Generator.{base_at}
use Rattle.generator.specs.Records.{size}
use Rattle.generator.proofs.Bounds.{base_at_below}
use Rattle.generator.proofs.BaseWord.{base_at_next}
use Rattle.plan.proofs.base.Recurrence.next.Goals as goal
use Rattle.plan.specs.declared.base.Recurrence.{Recurrence}

-- the arguments are symbols
symbols : (r : Recurrence) → (x entry : ℕ) → x < size r.codec.code.header → entry ≡ base_at r.codec.code.header x
    → let q = size_of (modulus r.codec.field.field) in
    (r.scale < q) × (r.pole < q) × (x < q) × (entry < q)
symbols r x entry low is =
    let s = r.codec.code.sound in
    rw r.codec.same (rw r.scale_is (power_below _ s.field _ s.root_below), rw r.pole_is (power_below _ s.field _ s.root_below), low, rw is (base_at_below _ s low))

pub mul-requires : goal.mul-requires
mul-requires c = let t = symbols c.args.self _ _ c.requires.0 c.requires.2 in (t.0, t.2)

pub sub-above-requires : goal.sub-above-requires
sub-above-requires c = (c.mul.ensures.symbol, (symbols c.args.self _ _ c.requires.0 c.requires.2).1)

pub sub-below-requires : goal.sub-below-requires
sub-below-requires c = let t = symbols c.args.self _ _ c.requires.0 c.requires.2 in (t.2, t.1)

pub mul-requires-2 : goal.mul-requires-2
mul-requires-2 c = ((symbols c.args.self _ _ c.requires.0 c.requires.2).3, c.mul-ratio.ensures.symbol)

pub returns : goal.returns
returns c =
    let r = c.args.self in
    let (low, apart, entry) = c.requires in
    let v = usable_field _ r.codec.field.usable in
    c.mul-2.ensures.is
    ∙ ap (mul _ c.args.entry) c.mul-ratio.ensures.is
    ∙ sym ((arithmetic _ v).mul_assoc c.args.entry _ _ (symbols r _ _ low entry).3 c.sub-above.ensures.symbol c.inverse.ensures.symbol)
    ∙ rw (
      c.inverse.ensures.is,
      c.sub-below.ensures.is,
      c.sub-above.ensures.is,
      c.mul.ensures.is,
      r.codec.same,
      r.scale_is,
      r.pole_is,
      entry,
    ) (sym (base_at_next r.codec.code.header r.codec.code.sound c.args.x low (λ q. apart (q ∙ sym r.pole_is))))
