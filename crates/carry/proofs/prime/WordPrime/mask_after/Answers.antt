-- `WordPrime::mask_after` meets its contract.
use mathlib.Core.Path.{◌≡◌, refl, sym, ◌∙◌}
use mathlib.Core.Bool.{true, false}
use Rattle.lists.specs.Numbers.{all_below}
use Rattle.carrying.specs.Masks.{masked}
use Rattle.carrying.specs.Changing.{mask_after}
use Rattle.carry.proofs.prime.WordPrime.mask_after.Goals as goal

pub returns-then-serves : goal.returns-then-serves
unfolding mask_after
returns-then-serves c =
    let serves : all_below c.args.self.p (masked c.args.c c.args.words.now) ≡ true = sym c.serves.ensures ∙ c.if-serves.true in rw serves refl

pub returns : goal.returns
unfolding mask_after
returns c =
    let none : all_below c.args.self.p (masked c.args.c c.args.words.now) ≡ false = sym c.serves.ensures ∙ c.if-serves.false in rw none c.find_mask.ensures
