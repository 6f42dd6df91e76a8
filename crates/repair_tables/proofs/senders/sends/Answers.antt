-- `sends` meets its contract.
use borrow.Author.Tests.{eq-eqb, ne_eqb}
use Rattle.lists.specs.Numbers.{is_in}
use Rattle.traces.specs.Repairs.{sends}
use Rattle.repair_tables.proofs.senders.sends.Goals as goal

pub returns-then-node-target : goal.returns-then-node-target
unfolding sends is_in
returns-then-node-target c = rw (eq-eqb _ _ c.if-node-target.true)

pub returns : goal.returns
unfolding sends is_in
returns c = rw (ne_eqb _ _ c.if-node-target.false, c.is_in.ensures)
