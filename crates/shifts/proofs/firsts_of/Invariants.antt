-- `firsts_of` meets its contract. Invariant: the first nodes of the first r rows are written.
use lib.ListN.{get_or}
use Rattle.lists.proofs.Fill.{Filled}
use Rattle.generator.specs.Shifts.{negative, shifts_of}
use Rattle.shifts.proofs.firsts_of.Given as goal

abbrev pub invariant-loop-r : goal.invariant-loop-r
invariant-loop-r l = Filled 255 l.k (λ i. negative l.n (get_or (shifts_of l.n l.k) i 0)) l.r l.out
