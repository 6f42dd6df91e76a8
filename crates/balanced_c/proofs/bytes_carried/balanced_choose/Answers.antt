-- `balanced_choose` meets its contract: the number of what `choose_record` answers, and how many bytes the record has.
use Rattle.std.proofs.Common.{rules}
use mathlib.Core.Path.{ap, ◌∙◌}
use Rattle.std.specs.Result.{result_unwrap_or}
use Rattle.generator.specs.Answers.{fault_in}
use Rattle.balanced_c.proofs.Answers.{mapped}
use Rattle.balanced_c.proofs.BytesCarried.{choose_gives}
use Rattle.balanced_c.proofs.bytes_carried.balanced_choose.Goals as goal

pub returns : goal.returns
returns c =
    let is = mapped _ (λ x. x) c.choose_record-answer.result c.map.result c.map.ensures.cases (λ x y given. search rules) in
    choose_gives _ _ _ _ _ _ _ _ (c.hand_over.ensures.0 ∙ ap fault_in is) (c.hand_over.ensures.1 ∙ ap (λ a. result_unwrap_or a c.args.len.now) is) c.choose_record-answer.ensures
