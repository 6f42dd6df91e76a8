-- `correct_listed` meets its contract: the record's number, or what its header gives.
use Rattle.std.proofs.Common.{refl}
use Rattle.generator.proofs.Answered.{exit}
use Rattle.refusals.proofs.OnRecord.{on_held, on_met}
use Rattle.layout.specs.Layout.{share_layout}
use Rattle.correct_listed.proofs.Answers.{listed_refuses}
use Rattle.correct_listed.proofs.correct_listed.Goals as goal

pub returns : goal.returns
returns c = on_held c.in_ok-code.ensures refl c.correct_accepted.ensures

pub returns-in_err-code : goal.returns-in_err-code
returns-in_err-code c =
    rw (exit _ c.from_residual.ensures.1) (on_met c.in_err-code.ensures refl (λ h some. listed_refuses h _ _ _ share_layout _ _ _ some))
