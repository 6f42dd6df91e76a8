-- `is_in` meets its contract.
use mathlib.Core.Path.{◌∙◌}
use Rattle.std.proofs.Common.{rules, tests}
use Rattle.std.proofs.lemmas.Iterator.{YieldsList-from_slice}
use Rattle.std.proofs.lemmas.Iterator.Search.{any_from_yields_List}
use lib.Dec.{eqb}
use Rattle.repair_tables.proofs.Steps.{any_is_in}
use Rattle.repair_tables.proofs.senders.is_in.Goals as goal

pub returns : goal.returns
returns c =
    any_from_yields_List (λ y. eqb c.args.x y) _ _ _ c.any.ensures.ran (YieldsList-from_slice c.args.list.now cc) (λ y b q k. search (rules, tests))
    ∙ any_is_in c.args.x c.args.list.now
