-- `fill_spread` meets its contract. The loop's invariant: the numbers below 2·c are written.
use Rattle.std.proofs.Common.{◌≡◌, ◌≤◌, get_or, arith, length-set}
use Rattle.lists.proofs.Parts.{valued_all, valued_at}
use Rattle.subset_sums.specs.Inner.Spread.{spread_of, spreads}
use Rattle.subset_sums.proofs.Spreading.{spread_start, spread_turn, spread_low}
use Rattle.subset_sums.proofs.slices.fill_spread.Goals as goal
use Rattle.subset_sums.proofs.slices.fill_spread.Goals.{In-loop-c}

-- the number that is read, and a bound of it
read : (c : In-loop-c) → let l = c.loop-c in (get_or l.sp l.c 0 ≡ spread_of l.c) × (spread_of l.c ≤ 282578800148737)
read c = let l = c.loop-c in (valued_at spread_of 256 l.invariant (omega arith) l.c (omega arith), spread_low l.c (omega arith))

pub loop-c-init : goal.loop-c-init
loop-c-init c = spread_start c.args.sp.now (omega arith)

pub overflow_mul-up : goal.overflow_mul-up
overflow_mul-up c = omega (arith, read (goal.at.overflow_mul-up c).In-loop-c)

pub overflow_add-sp : goal.overflow_add-sp
overflow_add-sp c = omega (arith, read (goal.at.overflow_add-sp c).In-loop-c)

pub loop-c-preserved : goal.loop-c-preserved
loop-c-preserved c =
    let l = c.loop-c in
    spread_turn l.c (get_or l.sp l.c 0) l.invariant (simp length-set (omega arith)) (omega arith) (read (goal.at.loop-c-preserved c).In-loop-c).0

pub returns : goal.returns
unfolding spreads
returns c = valued_all _ 256 c.loop-c.invariant (simp length-set (omega arith)) (omega arith)
