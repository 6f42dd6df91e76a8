-- `list_output` meets its contract. The loop's invariant: the slices of the groups below g are listed.
use Rattle.std.proofs.Common.{◌/◌, length, arith}
use Rattle.subset_sums.proofs.Spreading.{streams_all}
use Rattle.subset_sums.proofs.slices.list_output.Goals as goal

pub returns : goal.returns
returns c =
    let l = c.loop-g in
    let a = c.args in
    streams_all (length a.list.now / 8) l.g a.w.now l.list l.counts (omega arith) (omega arith) l.invariant
