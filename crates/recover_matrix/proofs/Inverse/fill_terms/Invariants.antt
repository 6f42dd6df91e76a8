-- `fill_terms` meets its contract. The loop's invariant: the terms of the rows below r are written, and the others are to come.
use Prim.Native.Nat.{◌-◌, ◌*◌}
use Rattle.lists.specs.Rows.{rows_from}
use Rattle.lists.proofs.Fill.{Fills}
use Rattle.layout.specs.Width.{bytes_of}
use Rattle.generator.specs.Records.{width}
use Rattle.node_weights.specs.Inner.Rows.{row_terms}
use Rattle.recover_matrix.proofs.Inverse.fill_terms.Given as goal

abbrev pub invariant-loop-r : goal.invariant-loop-r
invariant-loop-r l =
    let h = l.self.codec.code.header in
    Fills l.initial.out l.out (l.r * (width h * h.k)) (rows_from (λ r. bytes_of (width h) (row_terms h r)) l.r (h.k - l.r)) (rows_from (λ r. bytes_of (width h) (row_terms h r)) 0 h.k)
