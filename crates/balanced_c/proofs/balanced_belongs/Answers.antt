-- `balanced_belongs` meets its contract: the number of what `block_belongs` answers, and its lane or the number of lanes.
use Rattle.std.proofs.Common.{rules}
use Rattle.std.specs.Prelude.{unwrap_or}
use mathlib.Core.Path.{ap, ◌∙◌}
use Rattle.std.specs.Result.{result_unwrap_or}
use Rattle.generator.specs.Answers.{fault_in}
use Rattle.balanced_c.proofs.Answers.{mapped, belongs_gives}
use Rattle.balanced_c.proofs.balanced_belongs.Goals as goal

pub returns : goal.returns
returns c =
    let is = mapped _ (λ w. unwrap_or w c.args.lanes) c.block_belongs-answer.result c.map.result c.map.ensures.cases (λ w n given. search rules) in
    belongs_gives _ _ _ _ _ _ _ (c.hand_over.ensures.0 ∙ ap fault_in is) (c.hand_over.ensures.1 ∙ ap (λ a. result_unwrap_or a c.args.first_wrong.now) is) c.block_belongs-answer.ensures
