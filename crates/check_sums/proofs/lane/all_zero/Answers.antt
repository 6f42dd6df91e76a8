-- `all_zero` meets its contract: a sum is below 1 exactly if it is 0.
use mathlib.Core.Path.{◌∙◌}
use lib.Dec.{eqb}
use Rattle.std.proofs.Common.{rules, tests}
use Rattle.std.proofs.lemmas.Iterator.{YieldsList-from_slice}
use Rattle.std.proofs.lemmas.Iterator.Search.{all_from_yields_List}
use Rattle.check_sums.proofs.OneLane.{all_below_one}
use Rattle.check_sums.proofs.lane.all_zero.Goals as goal

pub returns : goal.returns
returns c =
    all_from_yields_List (λ x. eqb x 0) _ _ c.all.result c.all.ensures.ran (YieldsList-from_slice c.args.sums.now cc) (λ x b q k. search (rules, tests))
    ∙ all_below_one c.args.sums.now
