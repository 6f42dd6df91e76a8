-- `add_listed` meets its contract. The loop's invariant: with the slices that are left the sum is the same.
use Rattle.std.proofs.Common.{refl, sym, ap, length, ◌∙◌, arith}
use Rattle.kernel.proofs.Lanes.{length_lanewise}
use Rattle.subset_sums.proofs.Adding.{slices_none, slices_one}
use Rattle.subset_sums.proofs.horner.add_listed.Goals as goal

pub loop-start-preserved : goal.loop-start-preserved
loop-start-preserved c =
    let l = c.loop-start in
    let a = c.args in
    record {
      long = ap length c.add.ensures ∙ length_lanewise _ l.acc ∙ l.invariant.long;
      whole = rw c.add.ensures (slices_one a.tab.now a.list.now l.acc l.start-index _ l.invariant.long c.loop-start-test.true refl ∙ l.invariant.whole);
    }

pub returns : goal.returns
returns c =
    let l = c.loop-start in
    let a = c.args in
    sym (slices_none a.tab.now a.list.now l.acc l.start-index (omega arith)) ∙ l.invariant.whole
