-- `fill_spread` meets its contract. The loop's invariant: the numbers below 2·c are written.
use Rattle.std.proofs.Common.{◌*◌}
use Rattle.lists.proofs.Parts.{Valued}
use Rattle.subset_sums.specs.Inner.Spread.{spread_of}
use Rattle.subset_sums.proofs.slices.fill_spread.Given as goal

abbrev pub invariant-loop-c : goal.invariant-loop-c
invariant-loop-c l = Valued spread_of 256 l.initial.sp l.sp (2 * l.c)
