-- `belongs_fault` meets its contract: the tests are those of the definition, in its order.
use Rattle.std.proofs.Common.{sym, ◌∙◌}
use Rattle.refusals.proofs.NotMet.{length_good}
use Rattle.belongs.proofs.fault.belongs_fault.Goals as goal

pub shares_bad-requires : goal.shares_bad-requires
shares_bad-requires c =
    (c.requires, length_good _ _ (sym c.buffer_bad.ensures ∙ c.in_ok-when-2.ensures))
