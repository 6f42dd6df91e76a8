-- Counting along different places: where a test passes at places of a list of them alone, it is counted along the list.
use mathlib.Core.Path.{◌≡◌, refl, sym, ap, ◌∙◌}
use mathlib.Core.Bool.{Bool, true, false, not, true≢false, and-false}
use mathlib.Core.Logic.{by_cases}
use Prim.Native.Nat.{ℕ, zero, suc, ◌<◌}
use native.Mathlib.Nat.{not-suc-le-zero}
use native.Mathlib.Decide.{ℕ_discrete}
use native.Mathlib.Omega.{arith}
use borrow.Author.Tests.{eq-eqb}
use lib.Dec.{eqb}
use Rattle.lists.specs.Counting.{count_from}
use Rattle.std.proofs.lemmas.Bool.{and_parts}
use Rattle.lists.proofs.Cases.{by_test}
use Rattle.lists.proofs.Count.{count_ext, count_none, count_below}
use Rattle.lists.proofs.Chosen.{without, without_other, count_without}

-- f gives m different places below n
pub record Apart (n m : ℕ) (f : ℕ → ℕ) : Type 0 where
  pub low : (i : ℕ) → i < m → f i < n
  pub differ : (i j : ℕ) → i < m → j < m → f i ≡ f j → i ≡ j

-- without x the test fails at x
without_same : (x : ℕ) (p : ℕ → Bool) → without x p x ≡ true → ⊥
without_same x p h = true≢false (sym h ∙ simp (eq-eqb x x refl, and-false))

-- p passes at such places alone
abbrev Only : ℕ → ℕ → (ℕ → ℕ) → (ℕ → Bool) → Type 0
Only n m f p = (x : ℕ) → x < n → p x ≡ true → (i : ℕ) × (i < m) × (f i ≡ x)

-- then it is counted along them
abbrev Along : ℕ → ℕ → (ℕ → ℕ) → (ℕ → Bool) → Type 0
Along n m f p = count_from n 0 p ≡ count_from m 0 (λ i. p (f i))

-- one place more
module _ (n m : ℕ) (f : ℕ → ℕ) (p : ℕ → Bool) (a : Apart n (suc m) f) (only : Only n (suc m) f p) where
  fewer : Apart n m f
  fewer = record { low = λ i h. a.low i (omega arith); differ = λ i j h k e. a.differ i j (omega arith) (omega arith) e }

  -- what passes and is not the last is one of the others
  other : (x : ℕ) → x < n → p x ≡ true → (x ≡ f m → ⊥) → (i : ℕ) × (i < m) × (f i ≡ x)
  other x h e n =
      let (i, hi, at) = only x h e in
      by_cases (ℕ_discrete i m) (λ s. absurd (n (sym at ∙ ap f s))) (λ s. (i, omega arith, at))

  -- the last passes
  along_passes : p (f m) ≡ true → Along n m f (without (f m) p) → Along n (suc m) f p
  along_passes last rest =
      let one : count_from n 0 p ≡ suc (count_from n 0 (without (f m) p)) = count_without n (f m) p (a.low m (omega arith)) last in
      let same : count_from m 0 (λ i. without (f m) p (f i)) ≡ count_from m 0 (λ i. p (f i)) = count_ext m 0 _ _ (λ i low high. without_other (f m) (f i) p (λ e. let z : i ≡ m = a.differ i m (omega arith) (omega arith) e in omega arith)) in
      rw (count_below m (λ i. p (f i)), last) (omega arith)

  -- the last fails
  along_fails : p (f m) ≡ false → Along n m f p → Along n (suc m) f p
  along_fails none rest = rw (count_below m (λ i. p (f i)), none) (omega arith)

pub count_along : (n m : ℕ) (f : ℕ → ℕ) (p : ℕ → Bool) → Apart n m f → ((x : ℕ) → x < n → p x ≡ true → (i : ℕ) × (i < m) × (f i ≡ x)) → count_from n 0 p ≡ count_from m 0 (λ i. p (f i))
unfolding count_from
count_along n zero f p a only =
    count_none n 0 p (λ x low high. by_test (p x) (λ e. absurd (not-suc-le-zero (only x (omega arith) e).1)) (λ e. e))
count_along n (suc m) f p a only =
    by_test (p (f m))
    (λ last.
    along_passes n m f p a only last
    (count_along n m f (without (f m) p) (fewer n m f p a only)
    (λ x h e. other n m f p a only x h (and_parts (p x) (not (eqb x (f m))) e).0 (λ s. without_same (f m) p (rw s at e)))))
    (λ none.
    along_fails n m f p a only none
    (count_along n m f p (fewer n m f p a only)
    (λ x h e. other n m f p a only x h e (λ s. true≢false (sym e ∙ ap p s ∙ none)))))
