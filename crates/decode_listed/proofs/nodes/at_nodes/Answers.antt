-- `at_nodes` meets its contract. Invariant: the symbols at the first i nodes are written.
use mathlib.Core.Path.{refl, sym, ap, ◌∙◌}
use lib.ListN.{get_or}
use Rattle.lists.specs.Padded.{padded}
use Rattle.lists.proofs.Fill.{filled_put, filled_end}
use Rattle.lists.proofs.Places.{map_from}
use Rattle.decode_listed.proofs.nodes.at_nodes.Goals as goal

pub loop-i-preserved : goal.loop-i-preserved
loop-i-preserved c = filled_put c.loop-i.invariant c.loop-i-test.true refl

pub returns : goal.returns
returns c =
    filled_end c.loop-i.invariant c.loop-i-test.false ∙ ap (padded 255) (sym (map_from (λ j. get_or c.args.word.now j 0) c.args.nodes.now))
