-- `base` meets its contract. Invariant: y is root^i, a symbol, and the product has the factors below i.
use mathlib.Core.Path.{◌≡◌, sym, ap, ◌∙◌}
use Prim.Native.Nat.{◌+◌}
use native.Mathlib.Omega.{arith}
use lib.ListN.{length}
use Rattle.lists.specs.Padded.{padded}
use Rattle.field.specs.Kinds.{modulus}
use Rattle.field.proofs.KindLaws.{usable_field}
use Rattle.field.proofs.Powers.{power_next}
use Rattle.interpolation.specs.Inner.Polynomials.{times_linear, base_of}
use Rattle.interpolation.proofs.Coefficients.{Grows, grows, base_of_next, length_base_of, base_of_below}
use Rattle.interpolation.proofs.powers.Root.base.Goals as goal
use Rattle.interpolation.proofs.powers.Root.base.Goals.{In-loop-i}

-- one factor more
more : (c : In-loop-i)
    → let a = c.args in
    let l = c.loop-i in
    Grows (modulus a.self.field.field) l.y (l.i + 1) (base_of (modulus a.self.field.field) a.self.value l.i) l.out
more c =
    let a = c.args in
    let s = c.requires in
    let l = c.loop-i in
    let v = usable_field _ a.self.field.usable in
    let size : length (base_of (modulus a.self.field.field) a.self.value l.i) ≡ l.i + 1 = omega (arith, length_base_of (modulus a.self.field.field) a.self.value l.i) in
    grows _ v _ _ _ l.out l.invariant.2 size (omega (arith, s)) (base_of_below _ v _ l.i a.self.symbol) l.invariant.0

-- as code has it: i + 2 places
places : (c : In-loop-i) → c.loop-i.i + 2 ≡ c.loop-i.i + 1 + 1
places c = omega arith

pub times_linear-requires : goal.times_linear-requires
times_linear-requires c =
    let w = (goal.at.times_linear-requires c).In-loop-i in
    (rw (places w) (more w).symbols, c.loop-i.invariant.0)

pub loop-i-preserved : goal.loop-i-preserved
loop-i-preserved c =
    let a = c.args in
    let l = c.loop-i in
    let next : times_linear (modulus a.self.field.field) l.y 0 (base_of (modulus a.self.field.field) a.self.value l.i) ≡ base_of (modulus a.self.field.field) a.self.value (l.i + 1) = rw l.invariant.1 (sym (base_of_next (modulus a.self.field.field) a.self.value l.i)) in (c.mul-y.ensures.symbol, c.mul-y.ensures.is ∙ rw l.invariant.1 (sym (power_next (modulus a.self.field.field) a.self.value l.i)), rw (places (goal.at.loop-i-preserved c).In-loop-i) ((more (goal.at.loop-i-preserved c).In-loop-i).whole _ (rw (places (goal.at.loop-i-preserved c).In-loop-i) at c.times_linear.ensures)) ∙ ap (padded 256) next)
