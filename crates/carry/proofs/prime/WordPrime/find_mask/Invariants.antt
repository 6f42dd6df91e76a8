-- `find_mask` meets its contract. The loop's invariant: the mask begins with the digits of a, and so many masks are ruled out of those that do.
use mathlib.Core.Path.{◌≡◌}
use mathlib.Core.List.{◌∷◌}
use Prim.Native.Nat.{◌+◌, ◌*◌, ◌^◌, ◌≤◌}
use Rattle.carrying.specs.Masks.{all_ruled_out, mask_from, mask_of}
use Rattle.carry.proofs.prime.WordPrime.find_mask.Given as goal

abbrev pub invariant-loop-k : goal.invariant-loop-k
invariant-loop-k l = ((l.a + 1) * 2 ^ l.k ≤ 65536) × (l.total ≡ all_ruled_out l.p l.k l.a (0 ∷ l.words)) × (mask_of l.p l.words ≡ mask_from l.p l.k l.a (0 ∷ l.words))

abbrev pub decreases-loop-k : goal.decreases-loop-k
decreases-loop-k l = l.k
