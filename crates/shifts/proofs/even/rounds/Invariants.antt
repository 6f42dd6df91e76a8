-- `rounds` meets its contract. Invariant: the first `count` places are written, and the numbers from i on are to come.
use Prim.Native.Nat.{◌≤◌, ◌<◌, ◌+◌, ◌-◌}
use Rattle.lists.specs.Padded.{zeros}
use Rattle.lists.proofs.Fill.{Fills}
use Rattle.generator.specs.Shifts.{shifts_from}
use Rattle.shifts.proofs.even.rounds.Given as goal

abbrev pub invariant-loop-i : goal.invariant-loop-i
invariant-loop-i l = (l.count ≤ l.i) × (l.place < l.taken + l.skipped) × Fills (zeros 255) l.out l.count (shifts_from (l.n - l.i) l.i l.taken l.skipped l.place) (shifts_from l.n 0 l.taken l.skipped 0)
