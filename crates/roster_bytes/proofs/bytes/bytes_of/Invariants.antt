-- `bytes_of` meets its contract. The loop's invariant: the bytes of the first j marks are written.
use mathlib.Core.Bool.{false}
use Prim.Native.Nat.{◌-◌}
use lib.ListN.{get_or}
use Rattle.lists.specs.Choice.{pick}
use Rattle.lists.specs.Rows.{from}
use Rattle.lists.proofs.Fill.{Fills}
use Rattle.roster_bytes.specs.Bytes.{mark_bytes}
use Rattle.roster_bytes.proofs.bytes.bytes_of.Given as goal

abbrev pub invariant-loop-j : goal.invariant-loop-j
invariant-loop-j l = Fills l.initial.bytes l.bytes l.j (from (λ i. pick (get_or l.roster.marks i false) 1 0) l.j (255 - l.j)) (mark_bytes l.roster.marks)
