-- `load_words` meets its contract. Invariant: the words below i are listed, and those from i on are to come.
use mathlib.Core.List.{◌++◌}
use mathlib.Core.Path.{◌≡◌}
use lib.ListN.{length, drop}
use Rattle.carrying.specs.Carrying.{words_of}
use Rattle.carry.proofs.groups.load_words.Given as goal

abbrev pub invariant-loop-i : goal.invariant-loop-i
invariant-loop-i l = record { few : length l.words.items ≡ l.i; listed : l.words.items ++ drop l.i (words_of l.s) ≡ words_of l.s }
