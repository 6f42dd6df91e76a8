-- `product_at` meets its contract. Invariant: of each of the four parts the product over its points from number i on, a symbol.
use mathlib.Core.Path.{◌≡◌, ◌∙◌}
use Prim.Native.Nat.{◌+◌, ◌-◌, ◌*◌, ◌/◌}
use native.Mathlib.Nat.{add-zero, sub-zero}
use native.Mathlib.Omega.{arith}
use lib.ListN.{length}
use Rattle.lists.proofs.Rows.{part_rest}
use Rattle.field.specs.Kinds.{modulus}
use Rattle.field.proofs.Bounds.{one_below}
use Rattle.field.proofs.KindLaws.{usable_field}
use Rattle.interpolation.proofs.Stretches.{tail, stretch_none, stretch_before, tail_before, joined_four}
use Rattle.interpolation.proofs.lagrange.Points.product_at.Goals as goal

pub loop-i-init : goal.loop-i-init
loop-i-init c =
    let a = c.args in
    let p = modulus a.self.field.field in
    let xs = a.self.points.now in
    let size = length xs / 4 in
    let one = one_below _ (usable_field _ a.self.field.usable) in
    let four : 4 * size ≡ 3 * size + size = omega arith in
    let last : c.product_in_turn-last.result ≡ tail p xs a.z (3 * size + size) = rw (part_rest, four) at c.product_in_turn-last.ensures.is in
    ((one, stretch_none p xs a.z _ size), (one, stretch_none p xs a.z _ size), (one, stretch_none p xs a.z _ size), c.product_in_turn-last.ensures.symbol, last)

pub loop-i-preserved : goal.loop-i-preserved
loop-i-preserved c =
    let a = c.args in
    let p = modulus a.self.field.field in
    let xs = a.self.points.now in
    let size = length xs / 4 in
    let l = c.loop-i in
    let some = c.loop-i-test.true in
    let most = l.auto.i in
    let more : size - (l.i - 1) ≡ size - l.i + 1 = omega (arith, some, most) in
    let first = stretch_before p xs a.z _ _ _ _ (omega (arith, some)) more (omega (arith, some, most)) c.with_factor-first.ensures.is l.invariant.0.1 in
    let second = stretch_before p xs a.z _ _ _ _ (omega (arith, some)) more (omega (arith, some, most)) c.with_factor-second.ensures.is l.invariant.1.1 in
    let third = stretch_before p xs a.z _ _ _ _ (omega (arith, some)) more (omega (arith, some, most)) c.with_factor-third.ensures.is l.invariant.2.1 in
    let last = tail_before p xs a.z _ _ (omega (arith, some)) (omega (arith, some, most)) c.with_factor-last.ensures.is l.invariant.4 in
    ((c.with_factor-first.ensures.symbol, first), (c.with_factor-second.ensures.symbol, second), (c.with_factor-third.ensures.symbol, third), c.with_factor-last.ensures.symbol, last)

pub returns-clause-is : goal.returns-clause-is
returns-clause-is c =
    let a = c.args in
    let p = modulus a.self.field.field in
    let xs = a.self.points.now in
    let l = c.loop-i in
    let none : l.i ≡ 0 = omega (arith, c.loop-i-test.false) in
    let now = simp (none, add-zero, sub-zero) at l.invariant in
    c.mul-3.ensures.is
    ∙ rw (c.mul.ensures.is, c.mul-2.ensures.is, now.0.1, now.1.1, now.2.1, now.4) (joined_four p (usable_field _ a.self.field.usable) a.z c.requires xs (length xs / 4) a.self.symbols.below)
