-- `has_order` of a prime field meets its contract. The loop's invariant: x is the power at which the search stands.
use Rattle.field.proofs.Orders.{searched_end}
use Rattle.field.proofs.prime.PrimeField.has_order.Goals as goal

pub returns : goal.returns
returns c = searched_end _ _ _ _ _ c.requires.3 c.loop-test.false c.loop.invariant.0
