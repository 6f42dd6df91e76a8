-- Elements in succession of a list that is gone round, and how often each of them comes.
use mathlib.Core.Path.{◌≡◌, refl, sym, ap, ◌∙◌}
use mathlib.Core.Bool.{Bool, true, ◌&&◌, and-true}
use mathlib.Core.List.{List}
use mathlib.Core.Logic.{by_cases}
use Prim.Native.Nat.{ℕ, zero, suc, ◌+◌, ◌-◌, ◌*◌, ◌/◌, ◌%◌, ◌≤◌, ◌<◌}
use native.Mathlib.Nat.{div-add-mod', mod-lt, mod-eq_of_lt, add-mod_right, zero-add, add-zero}
use native.Mathlib.Decide.{dec_lt, ℕ_discrete}
use native.Mathlib.Omega.{arith}
use lib.Dec.{eqb}
use lib.ListN.{length, get_or, take}
use lib.Seq.{ext_get_or, get_or-take, length-take-le}
use borrow.Author.Tests.{eq-eqb, ne_eqb}
use Rattle.lists.specs.Choice.{when}
use Rattle.lists.specs.Rows.{from}
use Rattle.lists.specs.Counting.{count_from, occurrences}
use Rattle.lists.specs.Around.{around}
use Rattle.lists.proofs.Rows.{length_from, get_or_from, from_ext, from_move, row_inside}
use Rattle.lists.proofs.Count.{count_add, count_ext, count_one, count_period, count_periods}
use Rattle.lists.proofs.All.{All, All-at, All-of, Distinct, Distinct-at, Distinct-of}

-- of s numbers in succession no two leave the same rest
pub mod_different : (s x i j : ℕ) → i < s → j < s → (x + i) % s ≡ (x + j) % s → i ≡ j
mod_different s x i j l m e =
    let a = div-add-mod' (x + i) s in
    let b = div-add-mod' (x + j) s in
    by_cases (dec_lt ((x + i) / s) ((x + j) / s))
    (λ h. absurd (omega (arith, row_inside ((x + j) / s) ((x + i) / s) s h)))
    (λ h.
    by_cases (dec_lt ((x + j) / s) ((x + i) / s))
    (λ k. absurd (omega (arith, row_inside ((x + i) / s) ((x + j) / s) s k)))
    (λ k. let q : (x + i) / s ≡ (x + j) / s = omega arith in omega (arith, ap (λ (y : ℕ). y * s) q)))

-- the first k in order
pub around_first : (xs : List ℕ) (k : ℕ) → k ≤ length xs → from (around xs) 0 k ≡ take k xs
around_first xs k h =
    let size : length (take k xs) ≡ k = length-take-le k xs h in
    let agree : (i : ℕ) → i < length (from (around xs) 0 k) → get_or (from (around xs) 0 k) i 0 ≡ get_or (take k xs) i 0 = λ i low.
    let inside : i < k = omega (arith, length_from (around xs) 0 k) in
    let small : 0 + i < length xs = omega arith in
    get_or_from (around xs) 0 k i 0 inside ∙ rw (mod-eq_of_lt small, zero-add) (sym (get_or-take k xs i 0 inside)) in
    ext_get_or 0 (from (around xs) 0 k) (take k xs) (length_from (around xs) 0 k ∙ sym size) agree

-- k in succession from place x on
module _ (xs : List ℕ) (x k : ℕ) where
  -- what all elements have, they have
  pub around_all : (P : ℕ → Type 0) → 0 < length xs → All P xs → All P (from (around xs) x k)
  around_all P some all =
      All-of P 0 (from (around xs) x k)
      (λ i low. rw (get_or_from (around xs) x k i 0 (omega (arith, length_from (around xs) x k))) (All-at P 0 xs all ((x + i) % length xs) (mod-lt (x + i) some)))

  -- not more than the list has: of different elements no one comes twice
  pub around_distinct : k ≤ length xs → Distinct xs → Distinct (from (around xs) x k)
  around_distinct fits different =
      Distinct-of 0 (from (around xs) x k)
      (λ i j a b e.
      let l : i < k = omega (arith, length_from (around xs) x k) in
      let m : j < k = omega (arith, length_from (around xs) x k) in
      let some : 0 < length xs = omega arith in
      let same = sym (get_or_from (around xs) x k i 0 l) ∙ e ∙ get_or_from (around xs) x k j 0 m in
      mod_different (length xs) x i j (omega arith) (omega arith)
      (Distinct-at 0 xs different ((x + i) % length xs) ((x + j) % length xs) (mod-lt (x + i) some) (mod-lt (x + j) some) same))

-- places that leave the same rests are the same places
pub around_same_rests : (xs : List ℕ) (a b k : ℕ) → ((t : ℕ) → (a + t) % length xs ≡ (b + t) % length xs) → from (around xs) a k ≡ from (around xs) b k
around_same_rests xs a b k same =
    let at_zero : (c : ℕ) → from (λ t. around xs (c + t)) 0 k ≡ from (around xs) c k = λ c. from_move (around xs) c 0 k ∙ ap (λ (y : ℕ). from (around xs) y k) (add-zero c) in
    sym (at_zero a)
    ∙ from_ext (λ t. around xs (a + t)) (λ t. around xs (b + t)) 0 k (λ t u v. ap (λ (y : ℕ). get_or xs y 0) (same t))
    ∙ at_zero b

-- the test for the rest u modulo s
abbrev rest : ℕ → ℕ → ℕ → Bool
rest s u m = eqb (m % s) u

rest_period : (s u m : ℕ) → rest s u (m + s) ≡ rest s u m
rest_period s u m = rw add-mod_right

module _ (s u : ℕ) (low : u < s) where
  -- one of s numbers in succession leaves the rest u
  one_rest : count_from s 0 (rest s u) ≡ 1
  one_rest =
      count_ext s 0 (rest s u) (λ m. eqb m u && true) (λ m a b. rw (mod-eq_of_lt {n = m} {m = s} (omega arith)) (sym (and-true (eqb m u))))
      ∙ count_one s 0 u (λ m. true) (omega arith) (omega arith)

  -- at most one of fewer
  few_rests : (f i : ℕ) → f ≤ s → count_from f i (rest s u) ≤ 1
  few_rests f i h =
      let whole : f + (s - f) ≡ s = omega arith in
      let parts = rw whole at (count_add f (s - f) i (rest s u)) in
      omega (arith, parts, count_period s (rest s u) (rest_period s u) i, one_rest)

  -- of f numbers in succession f / s leave it, or one more
  pub count_rest : (f i : ℕ) → (f / s ≤ count_from f i (rest s u)) × (count_from f i (rest s u) ≤ f / s + 1)
  count_rest f i =
      let parts = rw (div-add-mod' f s) at (count_add (f / s * s) (f % s) i (rest s u)) in
      let rounds = rw one_rest at (count_periods s (rest s u) (rest_period s u) (f / s) i) in
      let more = few_rests (f % s) (i + f / s * s) (omega (arith, mod-lt f {m = s} (omega arith))) in
      (omega (arith, parts, rounds), omega (arith, parts, rounds, more))

-- how often a number stands in a list by a function of the index
pub occurrences_from : (x : ℕ) (f : ℕ → ℕ) (i n : ℕ) → occurrences x (from f i n) ≡ count_from n i (λ m. eqb (f m) x)
unfolding occurrences from count_from
occurrences_from x f i zero = refl
occurrences_from x f i (suc n) = ap (λ (c : ℕ). when (eqb (f i) x) 1 + c) (occurrences_from x f (i + 1) n)

module _ (xs : List ℕ) (different : Distinct xs) where
  -- different elements are equal only at equal places
  around_equal : (u m : ℕ) → u < length xs → eqb (around xs m) (get_or xs u 0) ≡ rest (length xs) u m
  around_equal u m low = go (ℕ_discrete (m % length xs) u)
    where
      go : Dec (m % length xs ≡ u) → eqb (around xs m) (get_or xs u 0) ≡ rest (length xs) u m
      go (yes e) = rw (eq-eqb (m % length xs) u e, eq-eqb (around xs m) (get_or xs u 0) (ap (λ (x : ℕ). get_or xs x 0) e))
      go (no d) =
          rw (ne_eqb (m % length xs) u d, ne_eqb (around xs m) (get_or xs u 0) (λ e. d (Distinct-at 0 xs different (m % length xs) u (mod-lt m {m = length xs} (omega arith)) low e)))

  -- of f in succession the element at place u is f / s, or one more
  pub around_occurrences : (u f i : ℕ) → u < length xs → (f / length xs ≤ occurrences (get_or xs u 0) (from (around xs) i f)) × (occurrences (get_or xs u 0) (from (around xs) i f) ≤ f / length xs + 1)
  around_occurrences u f i low =
      rw (occurrences_from (get_or xs u 0) (around xs) i f, count_ext f i (λ m. eqb (around xs m) (get_or xs u 0)) (rest (length xs) u) (λ m a b. around_equal u m low))
      (count_rest (length xs) u low f i)
