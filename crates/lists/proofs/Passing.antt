-- The numbers of a stretch that pass a test, as a list.
use mathlib.Core.Path.{◌≡◌, refl, sym, ap, ap₂, ◌∙◌}
use mathlib.Core.Bool.{Bool, true, false, ◌&&◌, true≢false}
use mathlib.Core.List.{List, [], ◌∷◌, ◌++◌}
use mathlib.Core.Logic.{⊎_elim, by_cases}
use Prim.Native.Nat.{ℕ, zero, suc, ◌+◌, ◌-◌, ◌≤◌, ◌<◌}
use native.Mathlib.Nat.{not-suc-le-zero, eq-or-lt_of_le, sub-eq-zero_of_le}
use native.Mathlib.Decide.{dec_lt}
use native.Mathlib.Numerals.{add-one}
use native.Mathlib.Omega.{arith}
use lib.ListN.{length, get_or}
use Rattle.lists.specs.Choice.{pick, when}
use Rattle.lists.specs.Counting.{count_from, passing_from}
use Rattle.lists.proofs.Count.{count_move, count_not}
use Rattle.lists.proofs.Rows.{sub_next}
use Rattle.lists.proofs.All.{All, All-imp, All-at, Distinct, Distinct-of}
use Rattle.lists.proofs.Numbers.{StandsIn}

-- what holds of a list with i in front where the test passes, and of the list where it fails
in_front_lem : (P : List ℕ → Type 0) (b : Bool) (i : ℕ) (l : List ℕ) → (b ≡ true → P (i ∷ l)) → (b ≡ false → P l) → P (pick b (i ∷ []) [] ++ l)
in_front_lem P true i l y n = y refl
in_front_lem P false i l y n = n refl

-- they are as many as are counted
pub length_passing : (f i : ℕ) (p : ℕ → Bool) → length (passing_from f i p) ≡ count_from f i p
unfolding passing_from count_from
length_passing zero i p = refl
length_passing (suc f) i p =
    in_front_lem (λ l. length l ≡ when (p i) 1 + count_from f (i + 1) p) (p i) i (passing_from f (i + 1) p)
    (λ e. rw (e, length_passing f (i + 1) p) (omega arith))
    (λ e. rw (e, length_passing f (i + 1) p) (omega arith))

-- at most all of the stretch
pub passing_most : (f i : ℕ) (p : ℕ → Bool) → length (passing_from f i p) ≤ f
passing_most f i p = omega (arith, length_passing f i p, count_not f i p)

-- one step of a list of those that pass, with what is left of n at i
pub passing_next : (n i : ℕ) (p : ℕ → Bool) → i < n → passing_from (n - i) i p ≡ pick (p i) (i ∷ []) [] ++ passing_from (n - (i + 1)) (i + 1) p
unfolding passing_from
passing_next n i p h = ap (λ (f : ℕ). passing_from f i p) (sub_next n i h)

pub passing_end : (n i : ℕ) (p : ℕ → Bool) → n ≤ i → passing_from (n - i) i p ≡ []
unfolding passing_from
passing_end n i p h = ap (λ (f : ℕ). passing_from f i p) (sub-eq-zero_of_le h)

-- tests that agree on a stretch pass the same numbers
pub passing_ext : (f i : ℕ) (p q : ℕ → Bool) → ((j : ℕ) → i ≤ j → j < i + f → p j ≡ q j) → passing_from f i p ≡ passing_from f i q
unfolding passing_from
passing_ext zero i p q h = refl
passing_ext (suc f) i p q h = ap₂ (λ (t : Bool) (l : List ℕ). pick t (i ∷ []) [] ++ l) (h i (omega arith) (omega arith)) (passing_ext f (i + 1) p q (λ j a b. h j (omega arith) (omega arith)))

-- the places of a list whose members pass a test
abbrev pub count_list : List ℕ → (ℕ → Bool) → ℕ
count_list l q = count_from (length l) 0 (λ r. q (get_or l r 0))

-- of a list with i in front, i and those of the list
count_front : (i : ℕ) (l : List ℕ) (q : ℕ → Bool) → count_list (i ∷ l) q ≡ when (q i) 1 + count_list l q
unfolding count_from
count_front i l q = ap (λ (c : ℕ). when (q i) 1 + c) (simp add-one at (count_move (length l) 0 1 (λ r. q (get_or (i ∷ l) r 0))))

-- those of the chosen that pass a second test
pub count_passing : (f i : ℕ) (p q : ℕ → Bool) → count_list (passing_from f i p) q ≡ count_from f i (λ j. p j && q j)
unfolding passing_from count_from
count_passing zero i p q = refl
count_passing (suc f) i p q =
    in_front_lem (λ l. count_list l q ≡ when (p i && q i) 1 + count_from f (i + 1) (λ j. p j && q j)) (p i) i (passing_from f (i + 1) p)
    (λ e. rw (e, count_front, count_passing f (i + 1) p q))
    (λ e. rw (e, count_passing f (i + 1) p q) (omega arith))

-- they lie in the stretch
pub passing_within : (f i : ℕ) (p : ℕ → Bool) → All (λ j. (i ≤ j) × (j < i + f)) (passing_from f i p)
unfolding passing_from
passing_within zero i p = tt
passing_within (suc f) i p =
    let rest = All-imp (λ j. (i + 1 ≤ j) × (j < i + 1 + f)) (λ j. (i ≤ j) × (j < i + suc f)) (λ j h. (omega arith, omega arith)) (passing_from f (i + 1) p) (passing_within f (i + 1) p) in
    in_front_lem (All (λ j. (i ≤ j) × (j < i + suc f))) (p i) i (passing_from f (i + 1) p) (λ e. ((omega arith, omega arith), rest)) (λ e. rest)

-- they pass
pub passing_pass : (f i : ℕ) (p : ℕ → Bool) → All (λ j. p j ≡ true) (passing_from f i p)
unfolding passing_from
passing_pass zero i p = tt
passing_pass (suc f) i p = in_front_lem (All (λ j. p j ≡ true)) (p i) i (passing_from f (i + 1) p) (λ e. (e, passing_pass f (i + 1) p)) (λ e. passing_pass f (i + 1) p)

-- and every number of the stretch that passes stands at some place
pub passing_place : (f i : ℕ) (p : ℕ → Bool) (j : ℕ) → i ≤ j → j < i + f → p j ≡ true → StandsIn j (passing_from f i p)
unfolding passing_from
passing_place zero i p j low high e = absurd (omega arith)
passing_place (suc f) i p j low high e =
    let all = pick (p i) (i ∷ []) [] ++ passing_from f (i + 1) p in
    let here : i ≡ j → StandsIn j all = λ d. in_front_lem (StandsIn j) (p i) i (passing_from f (i + 1) p) (λ t. (0, omega arith, d)) (λ t. absurd (true≢false (sym e ∙ ap p (sym d) ∙ t))) in
    let later : i < j → StandsIn j all = λ d.
    let (u, inside, is) = passing_place f (i + 1) p j (omega arith) (omega arith) e in
    in_front_lem (StandsIn j) (p i) i (passing_from f (i + 1) p) (λ t. (suc u, omega arith, is)) (λ t. (u, inside, is)) in
    ⊎_elim here later (eq-or-lt_of_le low)

-- where the first number passes, it is the first of them
pub passing_first : (f i : ℕ) (p : ℕ → Bool) → 0 < f → p i ≡ true → get_or (passing_from f i p) 0 0 ≡ i
unfolding passing_from
passing_first zero i p h e = absurd (not-suc-le-zero h)
passing_first (suc f) i p h e = rw e

-- every number of the list is below each later one
abbrev pub Rises : List ℕ → Type 0
Rises l = (r s : ℕ) → r < s → s < length l → get_or l r 0 < get_or l s 0

-- a list behind a lower number rises if it rises
rises_front : (i : ℕ) (l : List ℕ) → All (λ j. i < j) l → Rises l → Rises (i ∷ l)
rises_front i l low up zero zero h k = absurd (not-suc-le-zero h)
rises_front i l low up zero (suc s) h k = All-at (λ j. i < j) 0 l low s (omega arith)
rises_front i l low up (suc r) zero h k = absurd (not-suc-le-zero h)
rises_front i l low up (suc r) (suc s) h k = up r s (omega arith) (omega arith)

-- they rise
pub passing_rises : (f i : ℕ) (p : ℕ → Bool) → Rises (passing_from f i p)
unfolding passing_from
passing_rises zero i p = λ r s h k. absurd (not-suc-le-zero k)
passing_rises (suc f) i p =
    let above = All-imp (λ j. (i + 1 ≤ j) × (j < i + 1 + f)) (λ j. i < j) (λ j h. omega arith) (passing_from f (i + 1) p) (passing_within f (i + 1) p) in
    in_front_lem Rises (p i) i (passing_from f (i + 1) p) (λ e. rises_front i (passing_from f (i + 1) p) above (passing_rises f (i + 1) p)) (λ e. passing_rises f (i + 1) p)

-- numbers that rise are distinct
pub rises_distinct : (l : List ℕ) → Rises l → Distinct l
rises_distinct l up =
    Distinct-of 0 l
    (λ r s h k e.
    by_cases (dec_lt r s)
    (λ u. absurd (omega (arith, up r s u k)))
    (λ u. by_cases (dec_lt s r) (λ v. absurd (omega (arith, up s r v h))) (λ v. omega arith)))
