-- `fill_group` meets its contract. The loop's invariant: the sums of the rows below i are made.
use Rattle.std.proofs.Common.{◌≡◌, length-take-le, sym, arith}
use Rattle.lists.specs.Padded.{zeros}
use Rattle.lists.proofs.Parts.{from_at}
use Rattle.subset_sums.specs.Inner.Subsets.{group_of, group_byte, FirstSums}
use Rattle.subset_sums.proofs.Subsets.{sums_first}
use Rattle.subset_sums.proofs.table.fill_group.Goals as goal

pub slice_bounds-fill-end-2 : goal.slice_bounds-fill-end-2
slice_bounds-fill-end-2 c = sym (length-take-le 64 c.args.tab.now (omega arith))

pub loop-i-init : goal.loop-i-init
unfolding zeros
loop-i-init c =
    let tab = c.args.tab.now in
    rw (c.fill.ensures.after (λ y e. e), length-take-le 64 tab (omega arith)) (sums_first c.args.rows.now tab c.requires)

pub returns : goal.returns
unfolding group_of
returns c =
    let l = c.loop-i in
    let four : l.i ≡ 4 = omega arith in
    let all : FirstSums c.args.rows.now 16 l.tab = rw four at l.invariant in
    from_at (group_byte c.args.rows.now) l.tab 1024 all.long (λ p h. all.sums p (omega arith))
