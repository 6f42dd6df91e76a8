-- `weight_counts` meets its contract: the record's number, or what counting over its header gives.
use Rattle.std.proofs.Common.{refl}
use Rattle.generator.proofs.Answered.{exit}
use Rattle.refusals.proofs.OnRecord.{on_held, on_met}
use Rattle.weight_counts.proofs.Refused.{weights_refuses}
use Rattle.weight_counts.proofs.Weights.{distributed}
use Rattle.weight_counts.proofs.weight_counts.Goals as goal

pub returns : goal.returns
returns c =
    record { counted = on_held c.in_ok-code.ensures refl c.counts_accepted.ensures; claims = distributed _ _ refl }

pub returns-in_err-code : goal.returns-in_err-code
returns-in_err-code c =
    rw (exit _ c.from_residual.ensures.1) (record { counted = on_met c.in_err-code.ensures refl (λ h some. weights_refuses h _ some _); claims = distributed _ _ refl })
