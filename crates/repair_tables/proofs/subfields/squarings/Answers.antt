-- `subfields::squarings` meets its contract. Invariant: so many squarings are left.
use mathlib.Core.Path.{sym, ◌∙◌}
use Rattle.repair_tables.proofs.Steps.{mul_byte, squarings_next, squarings_end}
use Rattle.repair_tables.proofs.subfields.squarings.Goals as goal

pub loop-preserved : goal.loop-preserved
loop-preserved c =
    let l = c.loop in
    (rw c.mul_with-x.ensures (mul_byte _ _ l.invariant.0), rw c.mul_with-x.ensures (sym (squarings_next _ _ _ c.loop-test.true) ∙ l.invariant.1))

pub returns : goal.returns
returns c = sym (squarings_end _ _ _ c.loop-test.false) ∙ c.loop.invariant.1
