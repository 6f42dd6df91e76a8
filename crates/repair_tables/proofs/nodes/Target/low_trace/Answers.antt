-- `Target::low_trace` meets its contract.
use Rattle.repair_tables.proofs.Steps.{binary_of, mul_kind, symbol_kind}
use Rattle.repair_tables.proofs.nodes.Target.low_trace.Goals as goal

pub mul-y-requires : goal.mul-y-requires
mul-y-requires c = let a = c.args in rw a.self.codec.same (symbol_kind _ _ (binary_of _ _ _ a.self.needed) c.requires.0, symbol_kind _ _ (binary_of _ _ _ a.self.needed) c.requires.1)

pub trace-t-requires : goal.trace-t-requires
trace-t-requires c = let a = c.args in rw (c.mul-y.ensures.is, a.self.codec.same) (mul_kind _ _ _ (binary_of _ _ _ a.self.needed) c.requires.0)
