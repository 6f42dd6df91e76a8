-- `is_word` meets its contract: a lane is a word exactly if its check sums are zero.
use mathlib.Core.Path.{ap, ◌∙◌}
use Rattle.lists.specs.Numbers.{all_below}
use Rattle.lists.proofs.Padding.{take_padded}
use Rattle.check_sums.proofs.OneLane.{word_sums, length_sums}
use Rattle.check_sums.proofs.lane.Lane.is_word.Goals as goal

pub returns : goal.returns
returns c =
    c.all_zero.ensures
    ∙ ap (all_below 1) (rw (c.sums-found.ensures, c.checks-checks.ensures) (take_padded 255 _ _ (length_sums _ _)))
    ∙ word_sums _ _
