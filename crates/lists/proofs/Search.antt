-- The first number of a stretch that fails a test.
use mathlib.Core.Path.{◌≡◌, refl, sym, ap, ap₂, ◌∙◌}
use mathlib.Core.Logic.{⊎_elim}
use mathlib.Core.Bool.{Bool, true, false, true≢false}
use Prim.Native.Nat.{ℕ, zero, suc, ◌+◌, ◌-◌, ◌≤◌, ◌<◌}
use native.Mathlib.Nat.{eq-or-lt_of_le, sub-eq-zero_of_le}
use native.Mathlib.Omega.{arith}
use borrow.Author.Tests.{ltb-true, ltb-false}
use lib.Dec.{ltb}
use Rattle.lists.specs.Choice.{pick}
use Rattle.lists.proofs.Cases.{by_test}
use Rattle.lists.proofs.Rows.{sub_next}
use Rattle.lists.specs.Search.{first_false}

pub search_high : (f t : ℕ) (p : ℕ → Bool) → first_false f t p ≤ t + f
unfolding first_false
search_high zero t p = omega arith
search_high (suc f) t p = by_test (p t) (λ e. rw e (omega (arith, search_high f (t + 1) p))) (λ e. rw e (omega arith))

-- tests that agree find the same number
pub search_ext : (f t : ℕ) (p q : ℕ → Bool) → ((i : ℕ) → t ≤ i → i < t + f → p i ≡ q i) → first_false f t p ≡ first_false f t q
unfolding first_false
search_ext zero t p q h = refl
search_ext (suc f) t p q h =
    ap₂ (λ (b : Bool) (x : ℕ). pick b x t) (h t (omega arith) (omega arith))
    (search_ext f (t + 1) p q (λ i a b. h i (omega arith) (omega arith)))

-- where all pass it is the end
pub search_none : (f t : ℕ) (p : ℕ → Bool) → ((i : ℕ) → t ≤ i → i < t + f → p i ≡ true) → first_false f t p ≡ t + f
unfolding first_false
search_none zero t p h = omega arith
search_none (suc f) t p h = rw (h t (omega arith) (omega arith)) (search_none f (t + 1) p (λ i a b. h i (omega arith) (omega arith)) ∙ omega arith)

-- what is left of n numbers at t: the next passes, it fails, or there is none
module _ (n t : ℕ) (p : ℕ → Bool) where
  pub search_next : t < n → p t ≡ true → first_false (n - t) t p ≡ first_false (n - (t + 1)) (t + 1) p
  unfolding first_false
  search_next h e = ap (λ (f : ℕ). first_false f t p) (sub_next n t h) ∙ rw e

  pub search_found : t < n → p t ≡ false → first_false (n - t) t p ≡ t
  unfolding first_false
  search_found h e = ap (λ (f : ℕ). first_false f t p) (sub_next n t h) ∙ rw e

  pub search_end : n ≤ t → first_false (n - t) t p ≡ t
  unfolding first_false
  search_end h = ap (λ (f : ℕ). first_false f t p) (sub-eq-zero_of_le h)

-- the numbers before it pass
pub search_passes : (f t : ℕ) (p : ℕ → Bool) (i : ℕ) → t ≤ i → i < first_false f t p → p i ≡ true
unfolding first_false
search_passes zero t p i low high = absurd (omega arith)
search_passes (suc f) t p i low high =
    by_test (p t)
    (λ e.
    let rest : i < first_false f (t + 1) p = rw e at high in
    ⊎_elim (λ q. ap p (sym q) ∙ e) (λ next. search_passes f (t + 1) p i (omega arith) rest) (eq-or-lt_of_le low))
    (λ e. absurd (let w : i < t = rw e at high in omega arith))

-- and it fails, where it lies within the stretch
pub search_fails : (f t : ℕ) (p : ℕ → Bool) → first_false f t p < t + f → p (first_false f t p) ≡ false
unfolding first_false
search_fails zero t p h = absurd (omega arith)
search_fails (suc f) t p h =
    by_test (p t)
    (λ e. rw e (search_fails f (t + 1) p (let w : first_false f (t + 1) p < t + suc f = rw e at h in omega arith)))
    (λ e. rw e e)

-- a number of the stretch that fails is not before it
pub search_within : (f t : ℕ) (p : ℕ → Bool) (i : ℕ) → t ≤ i → i < t + f → p i ≡ false → first_false f t p ≤ i
search_within f t p i low high e =
    by_test (ltb i (first_false f t p))
    (λ l. absurd (true≢false (sym (search_passes f t p i low (ltb-true i (first_false f t p) l)) ∙ e)))
    (λ l. ltb-false i (first_false f t p) l)
