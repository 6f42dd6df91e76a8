-- The tests before it allow a target, and the last one is whether there is repair by traces.
use mathlib.Core.Path.{sym, ◌∙◌}
use native.Mathlib.Omega.{arith}
use Rattle.generator.proofs.Answered.{giving_tests}
use Rattle.refusals.proofs.NotMet.{number_good, nodes_good, twice_good}
use Rattle.repair.specs.Promise.{target_fault}
use Rattle.repair.proofs.Judging.{told}
use Rattle.repair.proofs.Repair.judge_target.Goals as goal

pub new-requires : goal.new-requires
new-requires c = (
  number_good _ _ (sym c.number_bad.ensures ∙ c.in_ok-when.ensures),
  nodes_good _ _ (sym c.nodes_bad.ensures ∙ c.in_ok-when-2.ensures),
  sym c.is_in.ensures ∙ c.in_ok-when-3.ensures,
  twice_good _ (sym c.twice_bad.ensures ∙ c.in_ok-when-4.ensures),
)

pub returns : goal.returns
unfolding target_fault
returns c = let last = told _ _ _ _ c.new.ensures in rw c.ok_or.ensures.value (grind (arith, giving_tests, last))
