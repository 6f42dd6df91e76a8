-- `first_roster` meets its contract. The loop's invariant: the first j marks are written.
use Prim.Native.Nat.{◌-◌}
use lib.Dec.{ltb}
use Rattle.lists.specs.Rows.{from}
use Rattle.lists.proofs.Fill.{Fills}
use Rattle.roster.specs.Rosters.{first_marks}
use Rattle.roster.proofs.first_roster.Given as goal

abbrev pub invariant-loop-j : goal.invariant-loop-j
invariant-loop-j l = Fills l.initial.marks l.marks l.j (from (λ i. ltb i l.n) l.j (255 - l.j)) (first_marks l.n)
