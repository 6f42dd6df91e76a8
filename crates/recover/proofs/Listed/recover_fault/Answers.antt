-- `recover_fault` meets its contract: the tests are those of the definition, in its order.
use Rattle.std.proofs.Common.{sym, ◌∙◌}
use Rattle.refusals.proofs.NotMet.{length_good}
use Rattle.recover.proofs.Listed.recover_fault.Goals as goal

pub list_fault-requires : goal.list_fault-requires
list_fault-requires c = (c.args.self.code.sound.usable_field, length_good _ _ (sym c.buffer_bad.ensures ∙ c.in_ok-when-3.ensures))
