-- What a target of repair stands for.
use Rattle.std.specs.Prelude.{List, ℕ}
use Rattle.generator.specs.declared.Header.{Header}
use Rattle.repair_tables.specs.declared.nodes.Target.{Target}

-- its code, its number, and the nodes that are missing beside it
abbrev pub asked : Target → Header × (ℕ × List ℕ)
asked target = (target.codec.code.header, (target.node, target.missing.now))
