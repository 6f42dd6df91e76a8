-- `list_weights` meets its contract.
use Rattle.lists.proofs.Fill.{Filled}
use Rattle.repair_tables.specs.Inner.Bits.{bit_count}
use Rattle.repair_tables.specs.Inner.Weights.{bit_weight}
use Rattle.repair_tables.proofs.nodes.Target.list_weights.Given as goal

abbrev pub invariant-loop-q : goal.invariant-loop-q
invariant-loop-q l = Filled 1020 l.count (bit_weight l.self.codec.code.header (bit_count l.self.bits) l.self.node l.senders) l.q l.table
