-- `list_columns` meets its contract. The loop's invariant: the nodes below `node` have their lists.
use mathlib.Core.Path.{◌≡◌}
use lib.ListN.{length}
use Rattle.generator.specs.Records.{modulus_of}
use Rattle.tile_products.specs.Inner.Matrices.{Begun}
use Rattle.encode.specs.Inner.Columns.{column_of}
use Rattle.encode.proofs.lanes.list_columns.Given as goal

abbrev pub invariant-loop-node : goal.invariant-loop-node
invariant-loop-node l =
    let h = l.generator.codec.code.header in
    (length l.column ≡ h.k)
    × (length l.lists ≡ length l.initial.lists)
    × (length l.counts ≡ length l.initial.counts)
    × Begun (modulus_of h) h.k (column_of h) l.node l.lists l.counts
