-- Lists of numbers: below a bound, membership, distinctness.
use mathlib.Core.Path.{◌≡◌, refl, sym, ◌∙◌}
use mathlib.Core.Logic.{◌⊎◌, inl, inr, ⊎_elim}
use mathlib.Core.Bool.{Bool, true, false, ◌||◌, not, false≢true, true≢false, and-eq-true_iff}
use mathlib.Core.List.{List, [], ◌∷◌, ◌++◌}
use Prim.Native.Nat.{ℕ, zero, suc, ◌<◌}
use native.Mathlib.Omega.{arith}
use lib.Dec.{eqb, ltb}
use lib.ListN.{length, get_or, set, take, drop}
use borrow.Author.Tests.{lt-ltb, ne_eqb, eq-eqb, ltb-true, eqb-true, not-true}
use Rattle.lists.specs.Numbers.{all_below, is_in, distinct}
use Rattle.lists.proofs.All.{All, All-at, All-of, Distinct}
use Rattle.lists.proofs.Places.{Places}
use Rattle.std.proofs.lemmas.Bool.{or_parts}
use Rattle.lists.proofs.Cases.{by_test}

-- a list whose first number and rest are below n, taken apart
pub below_cons : (n i : ℕ) (is : List ℕ) → all_below n (i ∷ is) ≡ true → (i < n) × (all_below n is ≡ true)
unfolding all_below is_in distinct
below_cons n i is h =
    let a = (and-eq-true_iff (ltb i n) (all_below n is)).0 h in
    (ltb-true i n a.0, a.1)

-- and put together
pub cons_below : (n i : ℕ) (is : List ℕ) → i < n → all_below n is ≡ true → all_below n (i ∷ is) ≡ true
unfolding all_below is_in distinct
cons_below n i is l h = (and-eq-true_iff (ltb i n) (all_below n is)).1 (lt-ltb i n l, h)

-- below n, so below n + 1
pub below_weaken : (n : ℕ) (is : List ℕ) → all_below n is ≡ true → all_below (suc n) is ≡ true
unfolding all_below is_in distinct
below_weaken n [] h = refl
below_weaken n (i ∷ is) h =
    let a = below_cons n i is h in
    cons_below (suc n) i is (omega arith) (below_weaken n is a.1)

-- a number is not among those below it
pub fresh : (n : ℕ) (is : List ℕ) → all_below n is ≡ true → is_in n is ≡ false
unfolding all_below is_in distinct
fresh n [] h = refl
fresh n (i ∷ is) h =
    let a = below_cons n i is h in
    rw (ne_eqb n i (λ e. omega arith), fresh n is a.1)

-- what is in a list is its first or in its rest
pub is_in_cons : (i n : ℕ) (is : List ℕ) → is_in i (n ∷ is) ≡ true → (i ≡ n) ⊎ (is_in i is ≡ true)
unfolding all_below is_in distinct
is_in_cons i n is h = go (eqb i n) refl h
  where
    go : (t : Bool) → eqb i n ≡ t → (t || is_in i is) ≡ true → (i ≡ n) ⊎ (is_in i is ≡ true)
    go true e h = inl (eqb-true i n e)
    go false e h = inr h

-- j stands at some place
abbrev pub StandsIn : ℕ → List ℕ → Type 0
StandsIn j l = (u : ℕ) × (u < length l) × (get_or l u 0 ≡ j)

-- what is in a list stands at some place
pub is_in_place : (j : ℕ) (l : List ℕ) → is_in j l ≡ true → StandsIn j l
unfolding is_in
is_in_place j [] e = absurd (false≢true e)
is_in_place j (x ∷ l) e = ⊎_elim (λ (d : j ≡ x). (0, omega arith, sym d)) (λ (d : is_in j l ≡ true). let (u, low, is) = is_in_place j l d in (suc u, omega arith, is)) (is_in_cons j x l e)

-- and what stands at a place is in it
pub place_is_in : (l : List ℕ) (u : ℕ) → u < length l → is_in (get_or l u 0) l ≡ true
unfolding is_in
place_is_in [] u low = absurd (omega arith)
place_is_in (x ∷ l) zero low = rw (eq-eqb x x refl)
place_is_in (x ∷ l) (suc u) low = by_test (eqb (get_or l u 0) x) (λ e. rw e) (λ e. rw e (place_is_in l u (omega arith)))

-- what is among numbers below n is below n
pub is_in_below : (n i : ℕ) (is : List ℕ) → all_below n is ≡ true → is_in i is ≡ true → i < n
unfolding all_below is_in distinct
is_in_below n i [] h m = absurd (false≢true m)
is_in_below n i (x ∷ is) h m =
    let a = below_cons n x is h in
    ⊎_elim (λ e. omega arith) (λ m. is_in_below n i is a.1 m) (is_in_cons i x is m)

-- the test of the bound says what it should
pub below_all : (n : ℕ) (js : List ℕ) → all_below n js ≡ true → All (λ j. j < n) js
below_all n [] h = tt
below_all n (j ∷ js) h =
    let a = below_cons n j js h in
    (a.0, below_all n js a.1)

pub all_below_lem : (n : ℕ) (js : List ℕ) → All (λ j. j < n) js → all_below n js ≡ true
unfolding all_below
all_below_lem n [] h = refl
all_below_lem n (j ∷ js) h = cons_below n j js h.0 (all_below_lem n js h.1)

-- the bound at an index, and at every index
pub below_at : (n : ℕ) (js : List ℕ) → all_below n js ≡ true → (i : ℕ) → i < length js → get_or js i 0 < n
below_at n js h = All-at (λ j. j < n) 0 js (below_all n js h)

-- at any index, 0 standing past the end
pub below_get_or : (n : ℕ) (js : List ℕ) → 0 < n → all_below n js ≡ true → (i : ℕ) → get_or js i 0 < n
below_get_or n [] some h i = some
below_get_or n (j ∷ js) some h zero = (below_cons n j js h).0
below_get_or n (j ∷ js) some h (suc i) = below_get_or n js some (below_cons n j js h).1 i

pub at_below : (n : ℕ) (js : List ℕ) → ((i : ℕ) → i < length js → get_or js i 0 < n) → all_below n js ≡ true
at_below n js h = all_below_lem n js (All-of (λ j. j < n) 0 js h)

-- the bound of parts, and of lists that are joined
pub below_take : (n i : ℕ) (js : List ℕ) → all_below n js ≡ true → all_below n (take i js) ≡ true
unfolding all_below
below_take n zero js h = refl
below_take n (suc i) [] h = refl
below_take n (suc i) (j ∷ js) h = let a = below_cons n j js h in cons_below n j (take i js) a.0 (below_take n i js a.1)

pub below_drop : (n i : ℕ) (js : List ℕ) → all_below n js ≡ true → all_below n (drop i js) ≡ true
below_drop n zero js h = h
below_drop n (suc i) [] h = h
below_drop n (suc i) (j ∷ js) h = below_drop n i js (below_cons n j js h).1

-- of a list in which another number takes a place
pub below_set : (n : ℕ) (xs : List ℕ) (i x : ℕ) → x < n → all_below n xs ≡ true → all_below n (set xs i x) ≡ true
unfolding all_below
below_set n [] i x l h = refl
below_set n (y ∷ xs) zero x l h = cons_below n x xs l (below_cons n y xs h).1
below_set n (y ∷ xs) (suc i) x l h = let both = below_cons n y xs h in cons_below n y (set xs i x) both.0 (below_set n xs i x l both.1)

pub below_append : (n : ℕ) (js ks : List ℕ) → all_below n js ≡ true → all_below n ks ≡ true → all_below n (js ++ ks) ≡ true
below_append n [] ks h k = k
below_append n (j ∷ js) ks h k = let a = below_cons n j js h in cons_below n j (js ++ ks) a.0 (below_append n js ks a.1 k)

-- a number that is not in a list differs from each of it
not_in_all : (j : ℕ) (js : List ℕ) → is_in j js ≡ false → All (λ i. j ≡ i → ⊥) js
unfolding is_in
not_in_all j [] h = tt
not_in_all j (i ∷ js) h = (
  λ e. true≢false (sym (rw (eq-eqb j i e) refl) ∙ h),
  not_in_all j js (or_parts (eqb j i) (is_in j js) h).1,
)

-- and the other way round
all_not_in : (j : ℕ) (js : List ℕ) → All (λ i. j ≡ i → ⊥) js → is_in j js ≡ false
unfolding is_in
all_not_in j [] h = refl
all_not_in j (i ∷ js) h = rw (ne_eqb j i h.0, all_not_in j js h.1)

-- the test of distinctness says what it should
pub distinct_all : (js : List ℕ) → distinct js ≡ true → Distinct js
unfolding distinct
distinct_all [] h = tt
distinct_all (j ∷ js) h =
    let c = (and-eq-true_iff (not (is_in j js)) (distinct js)).0 h in
    (not_in_all j js (not-true _ c.0), distinct_all js c.1)

pub all_distinct : (js : List ℕ) → Distinct js → distinct js ≡ true
unfolding distinct
all_distinct [] h = refl
all_distinct (j ∷ js) h = rw (all_not_in j js h.0, all_distinct js h.1)

-- k numbers that pass both tests are places
pub places : (n k : ℕ) (js : List ℕ) → length js ≡ k → all_below n js ≡ true → distinct js ≡ true → Places n k js
places n k js size below different = record { low = below_all n js below; distinct = distinct_all js different; size = size }
