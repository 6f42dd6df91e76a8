use Rattle.std.proofs.Common.{ap, ◌∙◌}
use Rattle.tiles.specs.Inner.Squares.{shuffled}
use Rattle.tiles.proofs.Shuffles.{turned_shuffled}
use Rattle.tiles.proofs.squares.turn.Goals as goal

pub returns : goal.returns
returns c =
    c.shuffle-4.ensures ∙ ap shuffled (c.shuffle-3.ensures ∙ ap shuffled (c.shuffle-2.ensures ∙ ap shuffled c.shuffle.ensures)) ∙ turned_shuffled _
