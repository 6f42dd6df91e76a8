-- `all_ruled_out` meets its contract. The loop's invariant: the sum so far and that of the words from i on make the whole.
use mathlib.Core.Path.{◌≡◌}
use mathlib.Core.List.{◌∷◌}
use Prim.Native.Nat.{◌+◌, ◌*◌, ◌≤◌}
use lib.ListN.{drop}
use Rattle.carrying.specs.Masks.{all_ruled_out}
use Rattle.carry.proofs.masks.all_ruled_out.Given as goal

abbrev pub invariant-loop-word : goal.invariant-loop-word
invariant-loop-word l = (l.total ≤ 32768 * (l.word-index + 1)) × (l.total + all_ruled_out l.p l.k l.a (drop l.word-index l.words) ≡ all_ruled_out l.p l.k l.a (0 ∷ l.words))
