-- Of the pairs of two lists, those of unlike numbers are as many as the places at which the lists differ.
use mathlib.Core.Path.{◌≡◌, refl, sym, ap, ◌∙◌}
use mathlib.Core.Bool.{Bool, true, false, cond, not}
use mathlib.Core.List.{List, [], ◌∷◌}
use Prim.Native.Nat.{ℕ, ◌+◌}
use native.Mathlib.Nat.{zero-add}
use native.Mathlib.Numerals.{add-one}
use native.Mathlib.Omega.{arith}
use lib.Dec.{eqb}
use lib.ListN.{length}
use Rattle.std.specs.List.{zip, filter}
use Rattle.lists.specs.Choice.{when}
use Rattle.lists.specs.Counting.{count_from, differ}
use Rattle.lists.proofs.Count.{count_ext, count_move}
use Rattle.lists.proofs.Differ.{unlike}

-- a pair that passes is one more
one_more : {A : Type 0} (b : Bool) (x : A) (xs : List A) → length (cond b (x ∷ xs) xs) ≡ when b 1 + length xs
one_more true x xs = omega arith
one_more false x xs = omega arith

-- the places after the first
rest_unlike : (x y : ℕ) (s t : List ℕ) → count_from (length s) 1 (unlike (x ∷ s) (y ∷ t)) ≡ differ s t
unfolding differ
rest_unlike x y s t =
    rw zero-add at (count_move (length s) 0 1 (unlike (x ∷ s) (y ∷ t)))
    ∙ count_ext (length s) 0 _ (unlike s t) (λ j low high. rw add-one)

pub pairs_unlike : (s t : List ℕ) → length t ≡ length s → length (filter (λ p. not (eqb p.0 p.1)) (zip s t)) ≡ differ s t
unfolding differ count_from
pairs_unlike [] t long = refl
pairs_unlike (x ∷ s) [] long = absurd (omega arith)
pairs_unlike (x ∷ s) (y ∷ t) long =
    one_more (not (eqb x y)) (x, y) (filter (λ p. not (eqb p.0 p.1)) (zip s t))
    ∙ ap (λ (c : ℕ). when (not (eqb x y)) 1 + c) (pairs_unlike s t (omega arith) ∙ sym (rest_unlike x y s t))
