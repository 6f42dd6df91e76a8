-- `combine_blocks` meets its contract. The loop's invariant: the lanes that are done are written.
use mathlib.Core.Path.{◌≡◌, ap, ◌∙◌}
use Prim.Native.Nat.{◌+◌, ◌<◌}
use native.Mathlib.Nat.{zero-add}
use native.Mathlib.Omega.{arith}
use lib.ListN.{length, get_or}
use Rattle.lists.proofs.Rows.{length_from, get_or_from}
use Rattle.row_sums.specs.Inner.Combined.{combined}
use Rattle.row_sums.specs.Inner.Terms.{wide_sum_at}
use Rattle.row_sums.specs.Inner.WideSums.{wide_sum}
use Rattle.row_sums.proofs.Pairs.{Written, written_less, written_pairs, written_all}
use Rattle.row_sums.proofs.wide.WideTerms.combine_blocks.Goals as goal
use Rattle.row_sums.proofs.wide.WideTerms.combine_blocks.Goals.{After-block_sums-sums, After-put}

-- a block has 16 sums
sixteen : (c : After-block_sums-sums) → length c.block_sums-sums.result ≡ 16
sixteen c = ap length c.block_sums-sums.ensures ∙ length_from _ 0 16

-- the lanes below the block's end are written
written : (c : After-put) → length c.block_sums-sums.result ≡ 16 → Written c.args.self.terms.lanes (wide_sum_at c.args.self) (c.min-at.result + 16) c.put.new.acc
written c end =
    let l = c.loop-done in
    let at = c.min-at.result in
    let f = wide_sum_at c.args.self in
    rw (c.put.ensures, ← end)
    (written_pairs _ _ c.block_sums-sums.result at l.acc (omega arith) (λ i low. let lane : i < 16 = omega arith in ap (λ s. get_or s i 0) c.block_sums-sums.ensures ∙ rw zero-add at (get_or_from (λ t. f (at + t)) 0 16 i 0 lane)) (written_less _ _ l.done at l.acc (omega arith) l.invariant))

pub loop-done-preserved : goal.loop-done-preserved
loop-done-preserved c =
    let at = goal.at.loop-done-preserved c in
    let end : c.min-at.result + 16 ≡ c.loop-done.done + 16 = omega arith in
    rw end at (written at.After-put (sixteen at.After-block_sums-sums))

pub returns : goal.returns
unfolding combined wide_sum
returns c = written_all _ _ c.loop-done.done c.loop-done.acc (omega arith) c.loop-done.invariant

pub returns-2 : goal.returns-2
unfolding combined wide_sum
returns-2 c =
    let at = goal.at.returns-2 c in
    written_all _ _ (c.min-at.result + 16) c.put.new.acc (omega arith) (written at.After-put (sixteen at.After-block_sums-sums))
