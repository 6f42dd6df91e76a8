-- `changed_words` meets its contract: the bytes of the group are whole words.
use mathlib.Core.Path.{ap, ◌∙◌}
use native.Mathlib.Omega.{arith}
use Rattle.carrying.specs.Carrying.{word_count, words_of}
use Rattle.carry.proofs.Words.{words_symbols}
use Rattle.carry.proofs.Changes.{changed_long}
use Rattle.carry.proofs.change.changed_words.Goals as goal

pub load_words-requires : goal.load_words-requires
unfolding word_count
load_words-requires c =
    let long = changed_long c.args.at c.args.part.now c.args.group.now c.requires.0 c.requires.2 in rw c.open_changed.ensures (omega (arith, long, c.requires))

pub returns : goal.returns
returns c =
    let long = changed_long c.args.at c.args.part.now c.args.group.now c.requires.0 c.requires.2 in
    c.load_words.ensures ∙ ap words_of c.open_changed.ensures ∙ words_symbols _ (omega (arith, long, c.requires))
