-- `Plan::entry` meets its contract: the shift may be reduced modulo n first.
use native.Mathlib.Nat.{add-mod-mod}
use native.Mathlib.Omega.{arith}
use borrow.Author.Rules.{rules}
use borrow.Author.Tests.{lt-ltb}
use lib.ListN.{get_or}
use Rattle.plan.specs.Plans.{entry_in}
use Rattle.plan.proofs.Plan.entry.Goals as goal
use Rattle.std.proofs.lemmas.Grind.{common_steps}

pub returns-then-r-self : goal.returns-then-r-self
unfolding entry_in
returns-then-r-self c = grind (arith, common_steps)

pub returns : goal.returns
unfolding entry_in
returns c =
    let a = c.args in
    let p = a.self.now in
    rw (lt-ltb _ _ c.if-r-self.false, lt-ltb a.j p.n (search rules), ← add-mod-mod a.j (get_or p.shifts a.r 0) p.n) c.entry_at.ensures
