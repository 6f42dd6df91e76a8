-- Places: distinct numbers below n; the numbers of a stretch in order, and those below n from the largest down.
use mathlib.Core.Path.{◌≡◌, refl, sym, ap, subst, ◌∙◌}
use mathlib.Core.List.{List, [], ◌∷◌, ◌++◌, map}
use Prim.Native.Nat.{ℕ, zero, suc, ◌+◌, ◌≤◌, ◌<◌}
use native.Mathlib.Decide.{dec_lt}
use native.Mathlib.Nat.{zero-add}
use native.Mathlib.Omega.{arith}
use lib.ListN.{length, get_or, length-map}
use lib.Seq.{ext_get_or}
use Rattle.lists.specs.Rows.{from, range}
use Rattle.std.proofs.lemmas.List.{get_or-map}
use Rattle.lists.proofs.All.{All, Distinct}
use Rattle.lists.proofs.Rows.{length_from, get_or_from, from_append}

-- k distinct numbers below n
pub record Places (n k : ℕ) (js : List ℕ) : Type 0 where
  pub low : All (λ j. j < n) js
  pub distinct : Distinct js
  pub size : length js ≡ k

-- the values of f on a stretch
pub map_range : {A : Type 0} (f : ℕ → A) (i n : ℕ) → map f (range i n) ≡ from f i n
unfolding from
map_range f i zero = refl
map_range f i (suc n) = ap (λ l. f i ∷ l) (map_range f (i + 1) n)

-- the images of a list, by index
pub map_from : (f : ℕ → ℕ) (xs : List ℕ) → map f xs ≡ from (λ i. f (get_or xs i 0)) 0 (length xs)
map_from f xs =
    ext_get_or 0 (map f xs) (from (λ i. f (get_or xs i 0)) 0 (length xs)) (length-map xs f ∙ sym (length_from (λ i. f (get_or xs i 0)) 0 (length xs)))
    (λ i h.
    let inside : i < length xs = omega (arith, length-map xs f) in
    get_or-map f xs i 0 0 inside ∙ sym (get_or_from (λ i. f (get_or xs i 0)) 0 (length xs) i 0 inside ∙ ap (λ (j : ℕ). f (get_or xs j 0)) (zero-add i)))

pub length_range : (i n : ℕ) → length (range i n) ≡ n
length_range i n = length_from (λ x. x) i n

-- two stretches end to end
pub range_append : (i m n : ℕ) → range i (m + n) ≡ range i m ++ range (i + m) n
range_append i m n = from_append (λ x. x) i m n

-- what holds of each number of a stretch holds of all
pub All-range : (P : ℕ → Type 0) (s n : ℕ) → ((i : ℕ) → s ≤ i → i < s + n → P i) → All P (range s n)
unfolding from
All-range P s zero h = tt
All-range P s (suc n) h = (h s (omega arith) (omega arith), All-range P (s + 1) n (λ i l b. h i (omega arith) (omega arith)))

pub Distinct-range : (s n : ℕ) → Distinct (range s n)
unfolding from
Distinct-range s zero = tt
Distinct-range s (suc n) = (All-range (λ y. s ≡ y → ⊥) (s + 1) n (λ i l b e. omega arith), Distinct-range (s + 1) n)

pub Places-range : (n s k : ℕ) → s + k ≤ n → Places n k (range s k)
Places-range n s k h = record { low = All-range (λ j. j < n) s k (λ i l b. omega arith); distinct = Distinct-range s k; size = length_range s k }

-- the numbers below n, the largest first.
abbrev pub below : ℕ → List ℕ
below zero = []
below (suc n) = n ∷ below n

pub length_below : (n : ℕ) → length (below n) ≡ n
length_below zero = refl
length_below (suc n) = ap suc (length_below n)

-- what holds of each number below n holds of all.
pub All-below-of : (P : ℕ → Type 0) (n : ℕ) → ((i : ℕ) → i < n → P i) → All P (below n)
All-below-of P zero h = tt
All-below-of P (suc n) h = (h n (omega arith), All-below-of P n (λ i l. h i (omega arith)))

-- what holds of all of them holds of each.
pub All-below : (P : ℕ → Type 0) (n : ℕ) → All P (below n) → (i : ℕ) → i < n → P i
All-below P zero h i l = absurd (omega arith)
All-below P (suc n) h i l = last (All-below P n h.1 i) (dec_lt i n)
  where
    last : (i < n → P i) → Dec (i < n) → P i
    last f (yes k) = f k
    last f (no k) = let e : n ≡ i = omega arith in subst P e h.0
