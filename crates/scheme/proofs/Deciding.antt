-- Tests of the numbers below n, and what their counts say of the properties that they decide.
use mathlib.Core.Path.{◌≡◌, refl, sym, ap, ◌∙◌}
use mathlib.Core.Logic.{◌≢◌, ◌↔◌}
use mathlib.Core.Bool.{Bool, true, false, not, decide, decide_iff, true≢false}
use Prim.Native.Nat.{ℕ, ◌+◌, ◌≤◌, ◌<◌, Fin}
use native.Mathlib.Decide.{dec_lt}
use native.Mathlib.Nat.{le_refl, le_of_eq, le_trans}
use native.Mathlib.Omega.{arith}
use borrow.Author.Tests.{not-false}
use Rattle.lists.specs.Counting.{count_from}
use Rattle.lists.proofs.Cases.{by_test}
use Rattle.lists.proofs.Count.{count_none, count_either}
use Rattle.lists.proofs.Numbers.{is_in_below}
use Rattle.lists.proofs.Chosen.{choose, count_most}
use Rattle.scheme.specs.Costs.{AtLeast, AtMost, Exactly}

-- a test of the numbers below n, which all others fail
within : {n i : ℕ} → (Fin n → Bool) → Dec (i < n) → Bool
within {n} {i} p (yes l) = p (i, l)
within p (no l) = false

-- the test, for every number
extend : (n : ℕ) → (Fin n → Bool) → ℕ → Bool
extend n p i = within p (dec_lt i n)

-- below n it is p
extend_at : (n : ℕ) (p : Fin n → Bool) (i : Fin n) → extend n p i.0 ≡ p i
unfolding extend within
extend_at n p i = go (dec_lt i.0 n)
  where
    go : (d : Dec (i.0 < n)) → within p d ≡ p i
    go (yes l) = ap p (native.Mathlib.Fin.val_path refl)
    go (no l) = absurd (l i.1)

module _ {ℓ} (n : ℕ) (p : ℕ → Bool) (P : Fin n → Type ℓ) where
  -- at least c have what enough numbers pass
  pub at_least : (c : ℕ) → ((i : Fin n) → p i.0 ≡ true → P i) → c ≤ count_from n 0 p → AtLeast c n P
  at_least c means h =
      let b = choose n c p h in
      record { which = b.which; below = b.below; different = b.different; many = le_of_eq (sym b.size); each = λ i m. means i (b.pass i.0 m) }

  -- at most as many have it as pass
  pub at_most : ((i : Fin n) → P i → p i.0 ≡ true) → AtMost (count_from n 0 p) n P
  at_most means is b d h = count_most n p is b d (λ i m. means (i, is_in_below n i is b m) (h (i, is_in_below n i is b m) m))

  -- the count of a test that decides it is exact
  pub exactly : ((i : Fin n) → (p i.0 ≡ true) ↔ P i) → Exactly (count_from n 0 p) n P
  exactly means = (at_least (count_from n 0 p) (λ i. (means i).0) (le_refl _), at_most (λ i. (means i).1))

-- at least b, so at least any fewer
pub fewer {ℓ} : {b c n : ℕ} {P : Fin n → Type ℓ} → AtLeast b n P → c ≤ b → AtLeast c n P
fewer a l = record { which = a.which; below = a.below; different = a.different; many = le_trans l a.many; each = a.each }

-- at least b and at most c, so b ≤ c
pub least_most {ℓ} : {b c n : ℕ} {P : Fin n → Type ℓ} → AtLeast b n P → AtMost c n P → b ≤ c
least_most a most = le_trans a.many (most a.which a.below a.different a.each)

-- at most b, so at most any more
pub more {ℓ} : {b c n : ℕ} {P : Fin n → Type ℓ} → AtMost b n P → b ≤ c → AtMost c n P
more most l is b d h = le_trans (most is b d h) l

-- at most c pass what at most c have
pub count_at_most {ℓ} : (n : ℕ) (p : ℕ → Bool) (P : Fin n → Type ℓ) (c : ℕ) → ((i : Fin n) → p i.0 ≡ true → P i) → AtMost c n P → count_from n 0 p ≤ c
count_at_most n p P c means most = least_most (at_least n p P (count_from n 0 p) means (le_refl _)) most

-- two families over the numbers below n, whose members are equal or different
module _ {κ} {n : ℕ} {C : Fin n → Type κ} (same : (j : Fin n) (c e : C j) → Dec (c ≡ e)) where
  -- the test whether they differ at j
  pub unlike : ((j : Fin n) → C j) → ((j : Fin n) → C j) → ℕ → Bool
  unlike f g = extend n (λ j. not (decide (same j (f j) (g j))))

  -- it fails just where they are equal
  pub unlike_false : (f g : (j : Fin n) → C j) (j : Fin n) → (unlike f g j.0 ≡ false) ↔ (f j ≡ g j)
  unfolding unlike
  unlike_false f g j =
      let d = same j (f j) (g j) in
      let at_j : unlike f g j.0 ≡ not (decide d) = extend_at n (λ j. not (decide (same j (f j) (g j)))) j in
      (λ e. (decide_iff d).0 (not-false _ (sym at_j ∙ e)), λ q. at_j ∙ ap not ((decide_iff d).1 q))

  -- and passes just where they differ
  pub unlike_true : (f g : (j : Fin n) → C j) (j : Fin n) → (unlike f g j.0 ≡ true) ↔ (f j ≢ g j)
  unlike_true f g j = (
    λ e q. true≢false (sym e ∙ (unlike_false f g j).1 q),
    λ ne. by_test (unlike f g j.0) (λ e. e) (λ e. absurd (ne ((unlike_false f g j).0 e))),
  )

  -- nothing differs from itself
  pub unlike_self : (f : (j : Fin n) → C j) → count_from n 0 (unlike f f) ≡ 0
  unlike_self f = count_none n 0 (unlike f f) (λ j l h. (unlike_false f f (j, omega arith)).1 refl)

  -- the triangle inequality
  pub unlike_triangle : (f g h : (j : Fin n) → C j) → count_from n 0 (unlike f h) ≤ count_from n 0 (unlike f g) + count_from n 0 (unlike g h)
  unlike_triangle f g h =
      count_either n 0 (unlike f h) (unlike f g) (unlike g h)
      (λ j l m a b. let i : Fin n = (j, omega arith) in (unlike_false f h i).1 ((unlike_false f g i).0 a ∙ (unlike_false g h i).0 b))
