-- `Bits::element` meets its contract.
use Rattle.traces.specs.Traces.{element}
use Rattle.repair_tables.proofs.bits.Bits.element.Goals as goal

pub returns-in-One : goal.returns-in-One
unfolding element
returns-in-One c = rw c.in-One.is

pub returns-in-Two : goal.returns-in-Two
unfolding element
returns-in-Two c = rw c.in-Two.is

pub returns-in-Four : goal.returns-in-Four
unfolding element
returns-in-Four c = rw c.in-Four.is
