-- `gf256::combine` meets its contract. The loop's invariant: acc holds the sums with the weights without their first `place` digits.
use mathlib.Core.Path.{◌≡◌, refl, ap, ◌∙◌}
use Prim.Native.Nat.{◌+◌, ◌-◌}
use native.Mathlib.Omega.{arith}
use lib.ListN.{length}
use Rattle.lists.specs.Padded.{zeros}
use Rattle.row_sums.proofs.Turns.{sums_of, sums_start, sums_turn, sums_end}
use Rattle.row_sums.proofs.gf256.ByteTerms.combine.Goals as goal

pub loop-place-init : goal.loop-place-init
unfolding zeros
loop-place-init c =
    let t = c.args.self.terms in
    c.fill.ensures.after (λ y e. e)
    ∙ ap zeros c.requires
    ∙ sums_start (length t.weights.now) t.lanes t.weights.now t.rows.now c.args.self.bytes

pub loop-place-preserved : goal.loop-place-preserved
loop-place-preserved c =
    let l = c.loop-place in
    let t = c.args.self.terms in
    let next : l.place - 1 + 1 ≡ l.place = omega arith in
    c.step.ensures
    ∙ sums_turn (length t.weights.now) t.lanes t.weights.now t.rows.now c.args.self.bytes (l.place - 1) l.place _ l.acc next refl l.invariant

pub returns : goal.returns
returns c =
    let t = c.args.self.terms in
    let none : c.loop-place.place ≡ 0 = omega arith in
    c.loop-place.invariant
    ∙ ap (sums_of (length t.weights.now) t.lanes t.weights.now t.rows.now) none
    ∙ sums_end (length t.weights.now) t.lanes t.weights.now t.rows.now c.args.self.bytes
