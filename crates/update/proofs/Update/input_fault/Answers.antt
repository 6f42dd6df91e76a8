-- `input_fault` meets its contract: the tests are those of the definition, in its order.
use mathlib.Core.Path.{sym, ◌∙◌}
use Rattle.refusals.proofs.NotMet.{length_good, number_good}
use Rattle.update.proofs.Update.input_fault.Goals as goal

pub lane_bad-requires : goal.lane_bad-requires
lane_bad-requires c = (
  c.args.code.sound.usable_field,
  number_good _ _ (sym c.number_bad-2.ensures ∙ c.in_ok-when-4.ensures),
  length_good _ _ (sym c.buffer_bad.ensures ∙ c.in_ok-when-2.ensures),
)
