-- `judge_share` meets its contract: the first test, where the search stops at a limit.
use mathlib.Core.Path.{refl, sym, ◌∙◌}
use Rattle.generator.specs.Answers.{answer_of}
use Rattle.generator.proofs.Answered.{exit}
use Rattle.repair.specs.Promise.{repair_share_fault}
use Rattle.repair.proofs.Repair.judge_share.Goals as goal

pub returns-in_err-when : goal.returns-in_err-when
unfolding repair_share_fault answer_of
returns-in_err-when c =
    let (holds, lanes) = c.in_err-when.ensures in
    rw (exit _ c.from_residual.ensures.1, lanes, sym c.lanes_bad.ensures ∙ holds) refl
