-- `lane_sum` meets its contract. The loop's invariant: sum, with the sum over the rows from i on, is that over all.
use mathlib.Core.Path.{◌≡◌, sym, ap, ◌∙◌}
use Prim.Native.Nat.{ℕ, ◌+◌}
use native.Mathlib.Nat.{mul-zero}
use native.Mathlib.Omega.{arith}
use lib.ListN.{length}
use Rattle.row_sums.proofs.WideSums.{rest_at, rest_next, product_places, sum_end}
use Rattle.row_sums.proofs.wide.WideTerms.lane_sum.Goals as goal
use Rattle.row_sums.proofs.wide.WideTerms.lane_sum.Goals.{else-weight-ne0, then-weight-ne0}

-- a row of weight 0 adds nothing
pub loop-i-preserved : goal.loop-i-preserved
loop-i-preserved c =
    let l = c.loop-i in
    let t = c.args.self.terms in
    let rest : ℕ = rest_at (length t.weights.now) t.lanes t.weights.now t.rows.now (l.i + 1) c.args.t in
    let next = rest_next _ _ _ _ c.args.self.two_rows l.i c.loop-i-test.true c.args.t c.requires in
    elim c.if-weight-ne0.branch [
      | then-weight-ne0 w ↦ let is : rest_at (length t.weights.now) t.lanes t.weights.now t.rows.now l.i c.args.t ≡ w.product.result + rest = next ∙ ap (λ (x : ℕ). x + rest) (product_places _ _ _ _ c.args.self.two_rows l.i c.loop-i-test.true c.args.t c.requires ∙ sym w.product.ensures.0) in
          (omega (arith, w.sum-is, w.product.ensures.1, l.invariant.0), omega (arith, w.sum-is, is, l.invariant.1))
      | else-weight-ne0 w ↦ let is : rest_at (length t.weights.now) t.lanes t.weights.now t.rows.now l.i c.args.t ≡ 0 + rest = next ∙ ap (λ (x : ℕ). x + rest) (rw w.if-weight-ne0.false (mul-zero _)) in
          (omega (arith, w.sum-is, l.invariant.0), omega (arith, w.sum-is, is, l.invariant.1))
    ]

pub returns : goal.returns
returns c =
    sum_end _ _ _ _ c.args.self.p c.args.self.some_modulus c.loop-i.i c.args.t c.loop-i.sum (omega arith) c.loop-i.invariant.1
