-- `eraser` meets its contract. Invariant: the product so far, times that over the nodes that are left, is the whole.
use mathlib.Core.Path.{◌≡◌}
use Prim.Native.Nat.{◌<◌}
use lib.ListN.{drop}
use Rattle.field.specs.Fields.{mul}
use Rattle.generator.specs.Records.{modulus_of, size}
use Rattle.traces.specs.Repairs.{eraser}
use Rattle.repair_tables.proofs.nodes.Target.eraser.Given as goal

abbrev pub invariant-loop-node : goal.invariant-loop-node
invariant-loop-node l =
    let h = l.self.codec.code.header in
    (l.product < size h) × (mul (modulus_of h) l.product (eraser h l.self.node l.u (drop l.node-index l.self.missing.now)) ≡ eraser h l.self.node l.u l.self.missing.now)
