-- `WordPrime::serves` meets its contract. The loop's invariant: all words are symbols where those from i on are.
use mathlib.Core.Path.{◌≡◌}
use lib.ListN.{drop}
use Rattle.lists.specs.Numbers.{all_below}
use Rattle.carrying.specs.Masks.{masked}
use Rattle.carry.proofs.prime.WordPrime.serves.Given as goal

abbrev pub invariant-loop-word : goal.invariant-loop-word
invariant-loop-word l = all_below l.self.p (masked l.c l.words) ≡ all_below l.self.p (masked l.c (drop l.word-index l.words))
