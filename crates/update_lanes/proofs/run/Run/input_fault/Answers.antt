-- `input_fault` meets its contract: the tests are those of the definition, in its order.
use mathlib.Core.Path.{sym, ◌∙◌}
use borrow.Author.Tests.{ltb-false}
use Rattle.refusals.proofs.NotMet.{length_good}
use Rattle.update_lanes.proofs.run.Run.input_fault.Goals as goal

pub run_bad-bad-requires : goal.run_bad-bad-requires
run_bad-bad-requires c = (c.args.code.sound.usable_field, ltb-false _ _ c.in_ok-when-6.ensures, length_good _ _ (sym c.buffer_bad.ensures ∙ c.in_ok-when-2.ensures))
