-- Lists that are padded with zeros: their length, elements and parts.
use mathlib.Core.Path.{◌≡◌, refl, ap, ◌∙◌}
use mathlib.Core.Bool.{true}
use mathlib.Core.List.{List, [], ◌∷◌, ◌++◌}
use Prim.Native.Nat.{ℕ, zero, suc, ◌-◌, ◌≤◌, ◌<◌}
use native.Mathlib.Omega.{arith}
use lib.ListN.{length, get_or, take, drop, replicate, length-append, length-drop, get_or-append}
use lib.Seq.{take_at, drop_at, drop-append-le}
use Rattle.lists.specs.Numbers.{all_below}
use Rattle.lists.specs.Padded.{zeros, padded}
use Rattle.lists.proofs.Fill.{length_zeros, drop_zeros}
use Rattle.lists.proofs.Numbers.{cons_below, below_append}

pub length_padded : (n : ℕ) (xs : List ℕ) → length xs ≤ n → length (padded n xs) ≡ n
unfolding padded
length_padded n xs h = length-append xs (zeros (n - length xs)) ∙ omega (arith, length_zeros (n - length xs))

-- a list that is copied into zeros
pub copied_is : (n : ℕ) (xs : List ℕ) → xs ++ drop (length xs) (replicate n 0) ≡ padded n xs
unfolding zeros padded
copied_is n xs = ap (λ (l : List ℕ). xs ++ l) (drop_zeros (length xs) n)

-- padding changes no element
pub get_or_padded : (n : ℕ) (xs : List ℕ) (i : ℕ) → i < length xs → get_or (padded n xs) i 0 ≡ get_or xs i 0
unfolding padded
get_or_padded n xs i h = get_or-append xs _ 0 i h

-- and takes no place away
pub in_padded : (n : ℕ) (xs : List ℕ) (i : ℕ) → i < length xs → i < length (padded n xs)
unfolding padded
in_padded n xs i h = simp length-append (omega arith)

-- the list without the padding
pub take_padded : (n m : ℕ) (xs : List ℕ) → length xs ≡ m → take m (padded n xs) ≡ xs
unfolding padded
take_padded n m xs h = take_at xs (zeros (n - length xs)) m h

-- and the padding
pub drop_padded : (n m : ℕ) (xs : List ℕ) → length xs ≡ m → drop m (padded n xs) ≡ zeros (n - m)
unfolding padded
drop_padded n m xs h = drop_at xs (zeros (n - length xs)) m h ∙ ap (λ (l : ℕ). zeros (n - l)) h

pub part_padded : (n m a : ℕ) (xs : List ℕ) → length xs ≡ m → a ≤ m → take (m - a) (drop a (padded n xs)) ≡ drop a xs
unfolding padded
part_padded n m a xs h low = rw (drop-append-le a xs (zeros (n - length xs)) (omega arith)) (take_at (drop a xs) (zeros (n - length xs)) (m - a) (length-drop a xs ∙ ap (λ (l : ℕ). l - a) h))

-- zeros keep a bound
pub below_zeros : (q n : ℕ) → 0 < q → all_below q (zeros n) ≡ true
unfolding zeros all_below
below_zeros q zero h = refl
below_zeros q (suc n) h = cons_below q 0 (zeros n) h (below_zeros q n h)

pub below_padded : (q n : ℕ) (xs : List ℕ) → 0 < q → all_below q xs ≡ true → all_below q (padded n xs) ≡ true
unfolding padded
below_padded q n xs pos h = below_append q xs (zeros (n - length xs)) h (below_zeros q (n - length xs) pos)

-- every place of zeros holds 0
pub get_or_zeros : (n i : ℕ) → get_or (zeros n) i 0 ≡ 0
unfolding zeros
get_or_zeros zero i = refl
get_or_zeros (suc n) zero = refl
get_or_zeros (suc n) (suc i) = get_or_zeros n i

-- past the list an array has zeros
pub padded_past : (n : ℕ) (xs : List ℕ) (x : ℕ) → length xs ≤ x → get_or (padded n xs) x 0 ≡ 0
unfolding padded
padded_past n xs x h = past xs (n - length xs) x h
  where
    past : (xs : List ℕ) (k x : ℕ) → length xs ≤ x → get_or (xs ++ zeros k) x 0 ≡ 0
    past [] k x h = get_or_zeros k x
    past (y ∷ xs) k zero h = absurd (omega arith)
    past (y ∷ xs) k (suc x) h = past xs k x (omega arith)
