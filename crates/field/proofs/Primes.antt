-- What the test of primes says.
use mathlib.Core.Path.{◌≡◌, refl, sym, ap, ◌∙◌}
use mathlib.Core.Bool.{Bool, true, false, ◌&&◌, not, true≢false}
use mathlib.Core.Logic.{⊎_elim}
use Prim.Native.Nat.{ℕ, zero, suc, ◌+◌, ◌-◌, ◌*◌, ◌/◌, ◌%◌, ◌≤◌, ◌<◌}
use native.Mathlib.Omega.{arith}
use native.Mathlib.Nat.{le-suc_iff, le_refl, le_step, div-add-mod', mul-mod_right, mul-le-mul, mul-le-mul_right, div-lt_iff_lt-mul, lt_of_not-le}
use borrow.Author.Tests.{ltb-true, ltb-false, leb-true, eqb-true, eq-eqb, le-leb, lt-leb, not-true}
use lib.Dec.{eqb, leb, ltb}
use Rattle.std.proofs.lemmas.Bool.{and_from, or_from, and_parts, or_parts}
use Rattle.lists.proofs.Cases.{by_test, not_both}
use Rattle.field.specs.Primes.{divides_some, is_prime}

-- where nothing from 2 to n divides p, no d from 2 to n does
no_divisor : (n p : ℕ) → divides_some n p ≡ false → (d : ℕ) → 2 ≤ d → d ≤ n → p % d ≡ 0 → ⊥
unfolding divides_some
no_divisor zero p h d low high e = omega arith
no_divisor (suc n) p h d low high e =
    let here : Bool = leb 2 (suc n) && eqb (p % suc n) 0 in
    ⊎_elim
    (λ l. no_divisor n p (or_parts here _ h).1 d low l e)
    (λ q. true≢false
    (sym (and_from _ _ (le-leb 2 (suc n) (omega arith)) (eq-eqb (p % suc n) 0 (rw q at e))) ∙ (or_parts here _ h).0))
    (le-suc_iff.0 high)

-- where no d from 2 to n divides p, the test says so
none_divides : (n p : ℕ) → ((d : ℕ) → 2 ≤ d → d ≤ n → p % d ≡ 0 → ⊥) → divides_some n p ≡ false
unfolding divides_some
none_divides zero p h = refl
none_divides (suc n) p h =
    or_from _ _
    (not_both (λ low e. h (suc n) (leb-true 2 (suc n) low) (le_refl (suc n)) (eqb-true (p % suc n) 0 e)))
    (none_divides n p (λ d low high. h d low (le_step high)))

-- a number below 2 is no prime
pub below_two : (p : ℕ) → p < 2 → is_prime p ≡ false
unfolding is_prime
below_two p h = rw (lt-leb 2 p h)

-- a number with a divisor from 2 on below it is no prime
pub composite : (p d : ℕ) → 2 ≤ d → d < p → p % d ≡ 0 → is_prime p ≡ false
unfolding is_prime
composite p d low high e =
    not_both {a = leb 2 p} (λ _ prime. no_divisor (p - 1) p (not-true _ prime) d low (omega arith) e)

-- where p / d < d and no k from 2 on below d divides p, p is a prime
pub trial : (p d : ℕ) → 2 ≤ p → p / d < d → ((k : ℕ) → k < d → 2 ≤ k → p % k ≡ 0 → ⊥) → is_prime p ≡ true
unfolding is_prime
trial p d two root none = and_from _ _ (le-leb 2 p two) (ap not (none_divides (p - 1) p refute))
  where
    refute : (e : ℕ) → 2 ≤ e → e ≤ p - 1 → p % e ≡ 0 → ⊥
    refute e low high divides =
        let f = p / e in
        let square : p < d * d = (div-lt_iff_lt-mul {k = d} (omega arith)).0 root in
        let product : f * e ≡ p = omega (arith, div-add-mod' p e) in
        by_test (ltb e d)
        (λ t. none e (ltb-true e d t) low divides)
        (λ t. none f
        (lt_of_not-le (λ h. omega (arith, mul-le-mul h (ltb-false e d t))))
        (lt_of_not-le (λ h. omega (arith, mul-le-mul_right e h)))
        (ap (λ (x : ℕ). x % f) (sym product) ∙ mul-mod_right f e))

module _ (p : ℕ) (prime : is_prime p ≡ true) where
  pub two≤prime : 2 ≤ p
  unfolding is_prime
  two≤prime = leb-true 2 p (and_parts _ _ prime).0

  -- no d from 2 to p − 1 divides a prime p
  pub prime_no_divisor : (d : ℕ) → 2 ≤ d → d < p → p % d ≡ 0 → ⊥
  unfolding is_prime
  prime_no_divisor d low high = no_divisor (p - 1) p (not-true _ (and_parts (leb 2 p) _ prime).1) d low (omega arith)
