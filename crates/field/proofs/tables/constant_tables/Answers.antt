-- `constant_tables` meets its contract: both tables pass the one computed test of all their entries.
use Rattle.field.specs.Bytes.{times_x}
use Rattle.field.proofs.TableLaws.{are_tables}
use Rattle.field.proofs.tables.constant_tables.Goals as goal

pub invariant_of-result : goal.invariant_of-result
unfolding times_x
invariant_of-result c = record { agree = are_tables _ _ tt }
