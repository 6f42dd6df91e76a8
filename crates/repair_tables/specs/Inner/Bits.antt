-- The widths of traces as numbers.
use Rattle.std.specs.Prelude.{ℕ}
use Rattle.repair_tables.specs.declared.bits.Bits.{Bits}
use Rattle.repair_tables.specs.declared.bits.Bits.TheVariants as B

-- how many bits a node sends of a symbol
abbrev pub bit_count : Bits → ℕ
bit_count B.One = 1
bit_count B.Two = 2
bit_count B.Four = 4
