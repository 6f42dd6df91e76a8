-- `block_sums` meets its contract. The loop's invariant: the sums over the rows below i are held.
use mathlib.Core.Path.{◌∙◌}
use Prim.Native.Nat.{ℕ, ◌≤◌, ◌<◌}
use native.Mathlib.Omega.{arith}
use lib.ListN.{get_or}
use Rattle.row_sums.proofs.WideSums.{held_none, held_row, held_all}
use Rattle.row_sums.proofs.wide.WideTerms.block_sums.Goals as goal

pub loop-i-init : goal.loop-i-init
loop-i-init c = held_none _ _ _ _ _ c.none-sums.result c.none-sums.ensures.low c.none-sums.ensures.high

pub loop-i-preserved : goal.loop-i-preserved
loop-i-preserved c =
    let l = c.loop-i in
    let more = c.add_products.ensures in
    let high : (x : ℕ) → get_or c.row-high.result.now x 0 ≤ 255 = λ x. grind arith in
    let low : (x : ℕ) → get_or c.row-low.result.now x 0 ≤ 255 = λ x. grind arith in
    let weight : get_or c.args.self.terms.weights.now l.i 0 < 65536 = omega arith in
    held_row _ _ _ _ c.args.at c.args.self.two_rows c.requires l.i c.loop-i-test.true (rw c.row-high.ensures.part at high) (rw c.row-low.ensures.part at low) weight l.sums c.add_products.new.self
    (rw (← c.row-high.ensures.part, ← c.row-low.ensures.part) more.low_rest)
    (rw (← c.row-high.ensures.part, ← c.row-low.ensures.part) more.low_upper)
    (rw (← c.row-high.ensures.part, ← c.row-low.ensures.part) more.high_rest)
    (rw (← c.row-high.ensures.part, ← c.row-low.ensures.part) more.high_upper)
    l.invariant

pub returns : goal.returns
returns c =
    let l = c.loop-i in
    c.remainders.ensures ∙ held_all _ _ _ _ c.args.at c.args.self.p c.args.self.some_modulus l.i (omega arith) (omega arith) l.sums l.invariant
