-- `twice_bad` meets its contract.
use Rattle.std.proofs.Common.{ℕ, ◌∙◌}
use borrow.Author.Tests.{eq-eqb, ne_eqb}
use lib.ListN.{drop_of_length-le}
use Rattle.lists.specs.Numbers.{is_in, distinct}
use Rattle.lists.proofs.Front.{drop_next}
use Rattle.refusals.specs.Conditions.{twice_bad}
use Rattle.refusals.proofs.nodes.twice_bad.Goals as goal

pub loop-j-init : goal.loop-j-init
unfolding distinct
loop-j-init c =
    let inv = c.places.invariant in
    (inv.0, inv.1 ∙ rw (drop_next {A = ℕ} _ _ 0 c.places-test.true))

pub loop-j-preserved : goal.loop-j-preserved
unfolding is_in
loop-j-preserved c =
    let inv = c.loop-j.invariant in
    (inv.0, inv.1 ∙ rw (drop_next {A = ℕ} _ _ 0 c.loop-j-test.true, ne_eqb _ _ c.if-nodes-i.false))

pub places-preserved : goal.places-preserved
unfolding is_in
places-preserved c =
    let inv = c.loop-j.invariant in
    (inv.0, inv.1 ∙ rw (drop_of_length-le {A = ℕ} _ c.loop-j-test.false))

pub returns-after-places : goal.returns-after-places
unfolding distinct twice_bad
returns-after-places c =
    let inv = c.places.invariant in
    inv.0 ∙ rw (inv.1, drop_of_length-le {A = ℕ} _ c.places-test.false)

pub returns-then-nodes-i : goal.returns-then-nodes-i
unfolding is_in twice_bad
returns-then-nodes-i c = rw (c.loop-j.invariant.1, drop_next {A = ℕ} _ _ 0 c.loop-j-test.true, eq-eqb _ _ c.if-nodes-i.true)
