-- Bytes that are changed where symbols carry them: a group keeps its mask while all its words are symbols under it, and else is carried anew.
use Rattle.std.specs.Prelude.{List, [], ◌∷◌, ◌++◌, ℕ, zero, suc, ◌+◌, ◌-◌, ◌*◌, eqb, length, take, drop}
use Rattle.lists.specs.Choice.{pick}
use Rattle.lists.specs.Numbers.{all_below}
use Rattle.layout.specs.Width.{symbols_of, bytes_of}
use Rattle.carrying.specs.Masks.{masked, covered, mask_of}
use Rattle.carrying.specs.Carrying.{group_words}

-- bytes of which a part, from `at` on, is replaced
unfoldable pub part_replaced : ℕ → List ℕ → List ℕ → List ℕ
part_replaced at bs s = take at s ++ (bs ++ drop (length bs) (drop at s))

-- the mask of a group that comes to have the words ws: the one that it has, c, where it serves
unfoldable pub mask_after : ℕ → ℕ → List ℕ → ℕ
mask_after p c ws = pick (all_below p (masked c ws)) c (mask_of p ws)

-- a group of which a part of the bytes is replaced
unfoldable pub changed_group : ℕ → ℕ → List ℕ → List ℕ → List ℕ
changed_group p at bs [] = []
changed_group p at bs (c ∷ xs) = let ws = symbols_of 2 (part_replaced at bs (bytes_of 2 (masked c xs))) in covered (mask_after p c ws) ws

-- so many groups at most, of `words` words: each takes of the part what lies in it, and leaves the rest to those behind it
unfoldable pub changed_from : ℕ → ℕ → ℕ → ℕ → List ℕ → List ℕ → List ℕ
changed_from p words zero at bs xs = []
changed_from p words (suc more) at bs [] = []
changed_from p words (suc more) at bs (x ∷ xs) =
    changed_group p at (take (words * 2 - at) bs) (take (words + 1) (x ∷ xs)) ++ changed_from p words more (at - words * 2) (drop (words * 2 - at) bs) (drop (words + 1) (x ∷ xs))

-- .. all groups
unfoldable pub changed_symbols : ℕ → ℕ → List ℕ → List ℕ → List ℕ
changed_symbols p at bs xs = changed_from p (group_words p) (length xs) at bs xs

-- over either kind of field: the bytes of the symbols afterwards
unfoldable pub changed_bytes : ℕ → ℕ → List ℕ → List ℕ → List ℕ
changed_bytes p at bs s = pick (eqb p 0) (part_replaced at bs s) (bytes_of 2 (changed_symbols p at bs (symbols_of 2 s)))
