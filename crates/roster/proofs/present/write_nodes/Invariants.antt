-- `write_nodes` meets its contract. Invariant: the first t nodes are written.
use Prim.Native.Nat.{◌+◌, ◌-◌}
use lib.ListN.{length}
use Rattle.lists.specs.Around.{around}
use Rattle.lists.specs.Rows.{from}
use Rattle.lists.proofs.Fill.{Fills}
use Rattle.roster.proofs.present.write_nodes.Given as goal

abbrev pub invariant-loop-t : goal.invariant-loop-t
invariant-loop-t l =
    Fills l.initial.list l.list l.t (from (around l.nodes) (l.first + l.t) (length l.initial.list - l.t)) (from (around l.nodes) l.first (length l.initial.list))
