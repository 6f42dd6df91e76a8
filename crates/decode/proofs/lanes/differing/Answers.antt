-- `differing` meets its contract: the pairs of unlike symbols are counted.
use mathlib.Core.Path.{◌∙◌}
use mathlib.Core.Bool.{not}
use lib.Dec.{eqb}
use Rattle.std.proofs.Common.{rules, tests}
use Rattle.std.proofs.lemmas.Iterator.{YieldsList-from_slice, YieldsList-from_zip}
use Rattle.std.proofs.lemmas.Iterator.Consumers.{YieldsList-at, YieldsList-from_filter, count_from_yields_List}
use Rattle.decode.proofs.Differing.{pairs_unlike}
use Rattle.decode.proofs.lanes.differing.Goals as goal

pub returns : goal.returns
returns c =
    count_from_yields_List c.filter.result c.count.result c.count.ensures.ran
    (YieldsList-from_filter _ (λ p. not (eqb p.0 p.1))
    (YieldsList-at c.filter.ensures.source (YieldsList-from_zip (YieldsList-from_slice c.args.a.now cc) (YieldsList-from_slice c.args.b.now cc)))
    c.filter.ensures.closure (λ x b q k. search (rules, tests)))
    ∙ pairs_unlike c.args.a.now c.args.b.now c.requires
