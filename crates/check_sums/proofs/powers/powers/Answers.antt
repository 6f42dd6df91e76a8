-- `powers` meets its contract. Invariant: x to x3 are the powers of the root from place-index on, and the powers below it are written.
use mathlib.Core.Path.{◌≡◌, refl, sym, ap, ap₂, ◌∙◌}
use Prim.Native.Nat.{◌+◌, ◌<◌}
use native.Mathlib.Omega.{arith}
use Rattle.lists.specs.Padded.{zeros}
use Rattle.lists.proofs.Fill.{filled_put}
use Rattle.field.specs.Fields.{size_of, mul, power}
use Rattle.field.specs.Kinds.{modulus}
use Rattle.field.proofs.Bounds.{power_below}
use Rattle.field.proofs.KindLaws.{usable_field}
use Rattle.check_sums.specs.Inner.Powers.{powers_of}
use Rattle.check_sums.proofs.Front.{front_start, front_inside, front_end}
use Rattle.check_sums.proofs.FirstPowers.{power_one, power_two, power_three, power_four, fourth_after}
use Rattle.check_sums.proofs.powers.powers.Goals as goal
use Rattle.check_sums.proofs.powers.powers.Goals.{After-mul-fourth, Start, In-loop-place}

-- the root and x are symbols
root-symbol : (c : Start) → c.args.codec.code.header.root < size_of (modulus c.args.codec.field.field)
root-symbol c = rw c.args.codec.same c.args.codec.code.sound.root_below

symbol : (c : In-loop-place) → c.loop-place.x < size_of (modulus c.args.codec.field.field)
symbol c =
    let f = c.args.codec.field in
    rw c.loop-place.invariant.0 (power_below _ (usable_field _ f.usable) c.loop-place.place-index (root-symbol (goal.at.In-loop-place c).Start))

-- the fourth power
fourth : (c : After-mul-fourth) → c.mul-fourth.result ≡ power (modulus c.args.codec.field.field) c.args.codec.code.header.root 4
fourth c =
    let v = usable_field _ c.args.codec.field.usable in
    c.mul-fourth.ensures.is ∙ ap₂ (mul _) c.mul-square.ensures.is c.mul-square.ensures.is ∙ sym (power_four _ v _ (root-symbol (goal.at.After-mul-fourth c).Start))

pub loop-place-init : goal.loop-place-init
unfolding zeros power
loop-place-init c =
    let v = usable_field _ c.args.codec.field.usable in
    let low = root-symbol (goal.at.loop-place-init c).Start in (
      refl,
      sym (power_one _ v _ low),
      c.mul-square.ensures.is ∙ sym (power_two _ v _ low),
      c.mul-x3.ensures.is ∙ ap (mul _ _) c.mul-square.ensures.is ∙ sym (power_three _ v _ low),
      front_start 255 c.args.codec.code.header.n _ (omega (arith, c.args.codec.code.sound.byte)),
    )

pub overflow_cast-place : goal.overflow_cast-place
overflow_cast-place c = omega (arith, symbol (goal.at.overflow_cast-place c).In-loop-place, c.args.codec.field.small)

pub mul-x4-requires : goal.mul-x4-requires
mul-x4-requires c = (c.mul-fourth.ensures.symbol, symbol (goal.at.mul-x4-requires c).In-loop-place)

pub loop-place-preserved : goal.loop-place-preserved
loop-place-preserved c =
    let v = usable_field _ c.args.codec.field.usable in
    let low = root-symbol (goal.at.loop-place-preserved c).Start in
    let l = c.loop-place in
    let second : l.place-index + 2 ≡ l.place-index + 1 + 1 = omega arith in
    let third : l.place-index + 3 ≡ l.place-index + 1 + 2 = omega arith in (
      l.invariant.1,
      l.invariant.2 ∙ ap (power _ _) second,
      l.invariant.3 ∙ ap (power _ _) third,
      c.mul-x4.ensures.is ∙ ap₂ (mul _) (fourth (goal.at.loop-place-preserved c).After-mul-fourth) l.invariant.0 ∙ fourth_after _ v _ low l.place-index,
      filled_put l.invariant.4 (front_inside 255 _ _ l.invariant.4 (omega arith)) l.invariant.0,
    )

pub returns : goal.returns
unfolding powers_of zeros
returns c = rw c.args.codec.same at (front_end 255 _ _ c.loop-place.invariant.4 (omega arith))
