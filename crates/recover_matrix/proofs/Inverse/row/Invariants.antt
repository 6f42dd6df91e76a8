-- `row` meets its contract. The loop's invariant: the entries below i are written.
use Prim.Native.Nat.{◌+◌, ◌*◌}
use lib.ListN.{get_or}
use Rattle.lists.proofs.Fill.{Filled}
use Rattle.field.specs.Fields.{mul}
use Rattle.generator.specs.Records.{modulus_of}
use Rattle.interpolation.specs.Inner.Lagrange.{scales_of}
use Rattle.node_weights.specs.Inner.Rows.{row_points}
use Rattle.recover_matrix.specs.Inner.Inverse.{node_points, inverse_sums}
use Rattle.recover_matrix.proofs.Inverse.row.Given as goal

abbrev pub invariant-loop-i : goal.invariant-loop-i
invariant-loop-i l =
    let h = l.self.codec.code.header in
    let js = l.self.nodes.now in
    let p = modulus_of h in
    Filled 255 h.k (λ j. mul p (mul p (get_or (scales_of p (row_points h)) l.r 0) (get_or (scales_of p (node_points h js)) j 0)) (get_or (inverse_sums h js) (j * h.k + l.r) 0)) l.i l.out
