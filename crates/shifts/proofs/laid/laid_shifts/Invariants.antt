-- `laid_shifts` meets its contract. Invariant: the shifts of the first r rows are written.
use Prim.Native.Nat.{◌+◌, ◌-◌}
use Rattle.lists.proofs.Fill.{Filled}
use Rattle.generator.specs.Shifts.{negative, laid_at}
use Rattle.shifts.proofs.laid.laid_shifts.Given as goal

abbrev pub invariant-loop-r : goal.invariant-loop-r
invariant-loop-r l = Filled l.k l.k (λ i. negative l.n (laid_at l.n (l.n - l.k + 1) i)) l.r l.shift-items
