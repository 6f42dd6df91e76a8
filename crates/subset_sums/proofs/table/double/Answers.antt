-- `double` meets its contract. The loop's invariant: v slices more are made.
use Rattle.std.proofs.Common.{◌≡◌, ◌+◌, ◌*◌, ◌%◌, ◌^◌, add-zero, add-one, pow-suc, arith}
use Rattle.lists.proofs.Rows.{part_length}
use Rattle.subset_sums.proofs.Subsets.{power_low, shifted, sums_valued, valued_sums, group_turn}
use Rattle.subset_sums.proofs.table.double.Goals as goal

pub loop-v-init : goal.loop-v-init
loop-v-init c =
    let i = c.args.i in
    rw (shifted i c.requires.0, add-zero) (sums_valued c.args.rows.now c.requires.1 (omega (arith, power_low i c.requires.0)))

pub sum-requires : goal.sum-requires
sum-requires c =
    let i = c.args.i in
    let few = power_low i c.requires.0 in
    let is = shifted i c.requires.0 in
    (part_length (i * 64) 64 c.args.rows.now (omega arith), omega (arith, few, is, c.requires.1.long), omega (arith, few, is, c.requires.1.long))

pub loop-v-preserved : goal.loop-v-preserved
loop-v-preserved c =
    let l = c.loop-v in
    let i = c.args.i in
    rw c.sum.ensures (group_turn c.args.rows.now l.v i _ (shifted i c.requires.0) l.invariant (omega arith) c.requires.1.long c.requires.0 c.loop-v-test.true)

pub returns : goal.returns
returns c =
    let l = c.loop-v in
    let i = c.args.i in
    let all : 1 * 2 ^ i % 18446744073709551616 + l.v ≡ 2 ^ (i + 1) = rw (add-one, pow-suc) (omega (arith, shifted i c.requires.0)) in
    rw (← all) (valued_sums c.args.rows.now l.invariant c.requires.1.long)
