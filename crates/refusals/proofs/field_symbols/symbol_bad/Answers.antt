-- `symbol_bad` meets its contract.
use Rattle.refusals.specs.Conditions.{symbol_bad}
use Rattle.refusals.proofs.field_symbols.symbol_bad.Goals as goal

pub returns : goal.returns
unfolding symbol_bad
returns c = rw c.size.ensures
