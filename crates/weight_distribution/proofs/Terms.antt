-- The alternating sum of the textbook obeys Pascal's rule, and so do the differences of powers.
use mathlib.Core.Path.{◌≡◌, refl, ap}
use mathlib.Core.Bool.{Bool, true, false, not}
use mathlib.Core.List.{List}
use Prim.Native.Nat.{ℕ, zero, suc, ◌+◌, ◌-◌, ◌*◌, ◌%◌, ◌^◌, ◌≤◌, ◌<◌}
use native.Mathlib.Nat.{zero-mul, one-mul, add-mul, add-zero, pow-zero, one-le-pow}
use native.Mathlib.Numerals.{sub-one, add-one}
use native.Mathlib.Decide.{ℕ_discrete}
use native.Mathlib.Omega.{arith}
use lib.Dec.{eqb}
use borrow.Author.Tests.{eq-eqb, ne_eqb}
use Rattle.lists.specs.Choice.{when}
use Rattle.lists.specs.Rows.{from, range}
use Rattle.weight_distribution.specs.Counts.{sum_of, binomial, term, even_terms, odd_terms}
use Rattle.weight_distribution.specs.Inner.Prescribed.{prescribed}
use Rattle.weight_distribution.proofs.Prescribed.{binomial_zero, prescribed_mono}
use Rattle.weight_distribution.proofs.Zeros.{Mds}

-- the f terms C(w, j)·(q^f − 1), C(w, j + 1)·(q^(f − 1) − 1) and so on: the sum of the first, the third and so on (true), or of the others (false)
unfoldable terms_from : ℕ → ℕ → Bool → ℕ → ℕ → ℕ
terms_from zero j s q w = 0
terms_from (suc f) j s q w = when s (binomial w j * (q ^ suc f - 1)) + terms_from f (suc j) (not s) q w

-- nothing past the first term is chosen out of none
terms_none : (f j : ℕ) (s : Bool) (q : ℕ) → terms_from f (suc j) s q 0 ≡ 0
unfolding terms_from binomial
terms_none zero j s q = refl
terms_none (suc f) j true q = rw (zero-mul) (omega (arith, terms_none f (suc j) false q))
terms_none (suc f) j false q = omega (arith, terms_none f (suc j) true q)

-- one sign of a term
when_add : (s : Bool) (a b x : ℕ) → when s ((a + b) * x) ≡ when s (a * x) + when s (b * x)
when_add true a b x = add-mul a b x
when_add false a b x = refl

-- Pascal's rule, from the second term on
pascal_from : (f j : ℕ) (s : Bool) (q w : ℕ) → terms_from f (suc j) s q (suc w) ≡ terms_from f j s q w + terms_from f (suc j) s q w
unfolding terms_from binomial
pascal_from zero j s q w = refl
pascal_from (suc f) j s q w = omega (arith, when_add s (binomial w j) (binomial w (suc j)) (q ^ suc f - 1), pascal_from f (suc j) (not s) q w)

-- Pascal's rule: for w + 1 the same sum, less the sum with one term less
pascal : (f : ℕ) (s : Bool) (q w : ℕ) → terms_from f 0 s q (suc w) ≡ terms_from f 0 s q w + terms_from (f - 1) 0 (not s) q w
unfolding terms_from binomial
pascal zero s q w = refl
pascal (suc f) s q w = rw (sub-one (suc f), binomial_zero w) (omega (arith, pascal_from f 0 (not s) q w))

-- with w = 0 there is the first term alone
terms_start : (f : ℕ) (s : Bool) (q : ℕ) → terms_from f 0 s q 0 ≡ when s (q ^ f - 1)
unfolding terms_from binomial
terms_start zero true q = rw pow-zero
terms_start zero false q = refl
terms_start (suc f) true q = rw (one-mul, terms_none f 0 false q) (add-zero (q ^ suc f - 1))
terms_start (suc f) false q = rw (terms_none f 0 true q)

-- 1 at 0 alone
abbrev at_zero : ℕ → ℕ
at_zero zero = 1
at_zero (suc w) = 0

-- the step, over numbers: a and b are two entries of the difference table, x and y, x' and y' their sums
step : (a b x y x' y' c : ℕ) → b ≤ a → a + y ≡ x + c → b + y' ≡ x' + c → a - b + (y + x') ≡ x + y' + 0
step a b x y x' y' c l e e' = omega arith

-- odd follows even, and even odd
parity : (j r : ℕ) → r < 2 → eqb ((j + 1) % 2) r ≡ not (eqb (j % 2) r)
parity j r h = by (ℕ_discrete (j % 2) r)
  where
    by : Dec (j % 2 ≡ r) → eqb ((j + 1) % 2) r ≡ not (eqb (j % 2) r)
    by (yes e) = rw (eq-eqb (j % 2) r e) (ne_eqb ((j + 1) % 2) r (λ z. omega arith))
    by (no e) = rw (ne_eqb (j % 2) r e) (eq-eqb ((j + 1) % 2) r (omega arith))

-- the terms from j on of one parity
signed : (d q w f j r : ℕ) → r < 2 → w - d + 1 ≡ j + f → sum_of (range j f) (λ i. when (eqb (i % 2) r) (term d q w i)) ≡ terms_from f j (eqb (j % 2) r) q w
unfolding sum_of from terms_from term
signed d q w zero j r h e = refl
signed d q w (suc f) j r h e =
    let left : w - d + 1 - j ≡ suc f = omega arith in
    rw (left, ← parity j r h, ← add-one j) (ap (λ c. when (eqb (j % 2) r) (binomial w j * (q ^ suc f - 1)) + c) (signed d q w f (j + 1) r h (omega arith)))

module _ {n k q : ℕ} {word : List ℕ → ℕ → ℕ} (code : Mds n k q word) where
  -- The differences of powers, the terms that are subtracted on their side.
  alternates : (w y : ℕ) → w ≤ y → y ≤ n → prescribed n k q w y + terms_from (k + y - n) 0 false q w ≡ terms_from (k + y - n) 0 true q w + at_zero w
  unfolding prescribed
  alternates zero y l h =
      let one : 1 ≤ q ^ (k + y - n) = one-le-pow (k + y - n) q code.some in
      rw (terms_start (k + y - n) true q, terms_start (k + y - n) false q) (omega arith)
  alternates (suc w) y l h =
      let t : ℕ = k + y - n in
      let less : k + (y - 1) - n ≡ t - 1 = omega arith in
      rw (pascal t true q w, pascal t false q w)
      (step (prescribed n k q w y) (prescribed n k q w (y - 1)) (terms_from t 0 true q w) (terms_from t 0 false q w) (terms_from (t - 1) 0 true q w) (terms_from (t - 1) 0 false q w) (at_zero w)
      (prescribed_mono code w y l h)
      (alternates w y (omega arith) h)
      (rw less at (alternates w (y - 1) (omega arith) (omega arith))))

  -- The words with a given support of w + 1 places, and the terms that are subtracted, are the terms that are added.
  pub support_terms : (w : ℕ) → n - k + 1 ≤ suc w → suc w ≤ n → prescribed n k q (suc w) (suc w) + odd_terms (n - k + 1) q (suc w) ≡ even_terms (n - k + 1) q (suc w)
  unfolding even_terms odd_terms
  support_terms w low high =
      let t : ℕ = suc w - (n - k + 1) + 1 in
      let count : k + suc w - n ≡ t = omega (arith, code.fits) in
      rw (signed (n - k + 1) q (suc w) t 0 0 (omega arith) (omega arith), signed (n - k + 1) q (suc w) t 0 1 (omega arith) (omega arith))
      (omega (arith, rw count at (alternates (suc w) (suc w) (omega arith) high)))

  -- Below the distance there are none.
  pub support_none : (w : ℕ) → suc w < n - k + 1 → prescribed n k q (suc w) (suc w) ≡ 0
  unfolding terms_from
  support_none w low =
      let count : k + suc w - n ≡ 0 = omega (arith, code.fits) in
      omega (arith, rw count at (alternates (suc w) (suc w) (omega arith) (omega (arith, code.fits))))
