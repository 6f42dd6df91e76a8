-- A test that is computed at every number below n, or at every entry of a list, and the fact at each of them.
use mathlib.Core.Path.{◌≡◌, subst, sym, ◌∙◌}
use mathlib.Core.Logic.{⊎_elim}
use mathlib.Core.Bool.{Bool, true, false}
use mathlib.Core.List.{List, [], ◌∷◌}
use Prim.Native.Nat.{ℕ, zero, suc, ◌+◌, ◌<◌}
use native.Mathlib.Nat.{zero-add, suc-add, add-suc, le_of_suc-le-suc, not-suc-le-zero, eq-or-lt_of_le}
use lib.Dec.{T, eqb, eqb→eq}
use lib.ListN.{length, get_or}

-- the second test is computed only where the first passes
abbrev pub both : Bool → Bool → Bool
both true b = b
both false b = false

pub both_left : (a b : Bool) → T (both a b) → T a
both_left true b t = tt
both_left false b t = t

pub both_right : (a b : Bool) → T (both a b) → T b
both_right true b t = t
both_right false b t = absurd t

-- the test f passes at every number below n
abbrev pub every : ℕ → (ℕ → Bool) → Bool
every zero f = true
every (suc n) f = both (f n) (every n f)

-- a test that passed holds at each number below n
pub at : (n : ℕ) (f : ℕ → Bool) → T (every n f) → (k : ℕ) → k < n → T (f k)
at zero f t k h = absurd (not-suc-le-zero h)
at (suc n) f t k h =
    ⊎_elim
    (λ e. subst (λ (m : ℕ). T (f m)) (sym e) (both_left (f n) (every n f) t))
    (λ l. at n f (both_right (f n) (every n f) t) k l)
    (eq-or-lt_of_le (le_of_suc-le-suc h))

-- two functions that agree at each number below n
pub equal_at : (n : ℕ) (f g : ℕ → ℕ) → T (every n (λ k. eqb (f k) (g k))) → (k : ℕ) → k < n → f k ≡ g k
equal_at n f g t k h = eqb→eq (f k) (g k) (at n (λ k. eqb (f k) (g k)) t k h)

-- the same for two arguments, and for three
pub equal_at₂ : (n m : ℕ) (f g : ℕ → ℕ → ℕ) → T (every n (λ i. every m (λ j. eqb (f i j) (g i j)))) → (i j : ℕ) → i < n → j < m → f i j ≡ g i j
equal_at₂ n m f g t i j hi hj = equal_at m (f i) (g i) (at n (λ i. every m (λ j. eqb (f i j) (g i j))) t i hi) j hj

-- the test f passes at every entry of a list, told its place, the first being i
abbrev pub every_entry : (ℕ → ℕ → Bool) → ℕ → List ℕ → Bool
every_entry f i [] = true
every_entry f i (x ∷ xs) = both (f i x) (every_entry f (suc i) xs)

pub entry_at : (f : ℕ → ℕ → Bool) (xs : List ℕ) (i : ℕ) → T (every_entry f i xs) → (k : ℕ) → k < length xs → T (f (k + i) (get_or xs k 0))
entry_at f [] i t k h = absurd (not-suc-le-zero h)
entry_at f (x ∷ xs) i t zero h = subst (λ (m : ℕ). T (f m x)) (sym (zero-add i)) (both_left (f i x) (every_entry f (suc i) xs) t)
entry_at f (x ∷ xs) i t (suc k) h =
    subst (λ (m : ℕ). T (f m (get_or xs k 0))) (add-suc k i ∙ sym (suc-add k i))
    (entry_at f xs (suc i) (both_right (f i x) (every_entry f (suc i) xs) t) k (le_of_suc-le-suc h))
