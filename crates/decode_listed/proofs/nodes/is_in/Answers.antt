-- `is_in` meets its contract.
use mathlib.Core.Path.{◌∙◌}
use Rattle.decode_listed.proofs.NodeLists.{contains_is_in}
use Rattle.decode_listed.proofs.nodes.is_in.Goals as goal

pub returns : goal.returns
returns c = c.contains.ensures.value ∙ contains_is_in c.args.node c.args.nodes.now
