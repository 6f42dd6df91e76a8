-- `fill_nodes` meets its contract. The loop's invariant: the rows of the nodes below `node` are written, and the others are to come.
use Prim.Native.Nat.{◌-◌, ◌*◌}
use Rattle.lists.specs.Rows.{rows_from}
use Rattle.lists.proofs.Fill.{Fills}
use Rattle.differences.specs.Inner.Changes.{change_rows, told}
use Rattle.differences.proofs.change.Change.fill_nodes.Given as goal

abbrev pub invariant-loop-node : goal.invariant-loop-node
invariant-loop-node l =
    let row = told (change_rows l.self) l.self.symbol l.tile in
    Fills l.initial.out l.out (l.node * l.size) (rows_from row l.node (l.n - l.node)) (rows_from row 0 l.n)
