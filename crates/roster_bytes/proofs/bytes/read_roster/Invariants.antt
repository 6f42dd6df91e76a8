-- `read_roster` meets its contract. The loop's invariant: the first j marks are written.
use mathlib.Core.Bool.{not}
use Prim.Native.Nat.{◌-◌}
use lib.Dec.{eqb}
use lib.ListN.{get_or}
use Rattle.lists.specs.Rows.{from}
use Rattle.lists.proofs.Fill.{Fills}
use Rattle.roster_bytes.specs.Bytes.{marks_of}
use Rattle.roster_bytes.proofs.bytes.read_roster.Given as goal

abbrev pub invariant-loop-j : goal.invariant-loop-j
invariant-loop-j l = Fills l.initial.marks l.marks l.j (from (λ i. not (eqb (get_or l.bytes i 0) 0)) l.j (255 - l.j)) (marks_of l.bytes)
