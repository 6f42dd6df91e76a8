-- `sum` meets its contract.
use Rattle.std.proofs.Common.{arith}
use Rattle.subset_sums.specs.Inner.Subsets.{summed}
use Rattle.subset_sums.proofs.Subsets.{sum_part}
use Rattle.subset_sums.proofs.table.sum.Goals as goal

pub returns : goal.returns
unfolding summed
returns c =
    let a = c.args in
    rw (c.copy_from_slice-2.ensures.after, c.add.ensures, c.copy_from_slice.ensures.after, sum_part a.row.now a.tab.now a.a (omega arith))
