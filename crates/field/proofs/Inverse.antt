-- The search for an inverse finds the only one.
use mathlib.Core.Path.{◌≡◌, refl, sym, ap, ◌∙◌}
use mathlib.Core.Bool.{true}
use Prim.Native.Nat.{ℕ, zero, suc, ◌+◌, ◌≤◌, ◌<◌}
use native.Mathlib.Omega.{arith}
use borrow.Author.Tests.{eqb-true, eqb-false, ne_eqb}
use lib.Dec.{eqb}
use Rattle.lists.proofs.Cases.{by_test}
use Rattle.field.specs.Primes.{is_prime}
use Rattle.field.specs.Fields.{is_field, size_of, mul, inverse_from, inverse}
use Rattle.field.proofs.Meanings.{prime_field, prime_size}
use Rattle.field.proofs.Arithmetic.{zero-mul, one_inverse}
use Rattle.field.proofs.BothKinds.{arithmetic}

-- where one of the f numbers from x on has the product 1 with a, the search gives such a number
found : (f x p a r : ℕ) → x ≤ r → r < x + f → mul p a r ≡ 1 → (inverse_from f x p a < x + f) × (mul p a (inverse_from f x p a) ≡ 1)
unfolding inverse_from
found zero x p a r low high e = absurd (omega arith)
found (suc f) x p a r low high e =
    by_test (eqb (mul p a x) 1)
    (λ t. rw t (omega arith, eqb-true (mul p a x) 1 t))
    (λ t. let other : (x ≡ r → ⊥) = λ q. eqb-false (mul p a x) 1 t (ap (mul p a) q ∙ e) in
    let later = found f (x + 1) p a r (omega arith) (omega arith) e in
    rw t (omega arith, later.1))

-- where none has, it gives 0
none : (f x p a : ℕ) → ((r : ℕ) → x ≤ r → r < x + f → mul p a r ≡ 1 → ⊥) → inverse_from f x p a ≡ 0
unfolding inverse_from
none zero x p a h = refl
none (suc f) x p a h =
    rw (ne_eqb (mul p a x) 1 (h x (omega arith) (omega arith)))
    (none f (x + 1) p a (λ r low high. h r (omega arith) (omega arith)))

module _ (p : ℕ) (v : is_field p ≡ true) where
  -- 0 has no inverse, and the search gives 0
  pub inverse_zero : inverse p 0 ≡ 0
  unfolding inverse
  inverse_zero =
      none (size_of p) 0 p 0
      (λ r low high e. let z : ◌≡◌ {A = ℕ} 0 1 = sym (zero-mul (arithmetic p v) r (omega arith)) ∙ e in omega arith)

  inverse_found : (a : ℕ) → 0 < a → a < size_of p → (inverse p a < size_of p) × (mul p a (inverse p a) ≡ 1)
  unfolding inverse
  inverse_found a pos ha =
      let some = (arithmetic p v).invertible a pos ha in
      let got = found (size_of p) 0 p a some.0 (omega arith) (omega (arith, some.1)) some.2 in
      (omega (arith, got.0), got.1)

  -- every other symbol has the product 1 with what the search gives
  pub mul_inverse : (a : ℕ) → 0 < a → a < size_of p → mul p a (inverse p a) ≡ 1
  mul_inverse a pos ha = (inverse_found a pos ha).1

  pub inverse_below : {a : ℕ} → a < size_of p → inverse p a < size_of p
  inverse_below {a = zero} ha = rw inverse_zero ha
  inverse_below {a = suc a} ha = (inverse_found (suc a) (omega arith) ha).0

  -- and with no other symbol
  pub inverse_unique : (a r : ℕ) → a < size_of p → r < size_of p → mul p a r ≡ 1 → r ≡ inverse p a
  inverse_unique a r ha hr e =
      by_test (eqb a 0)
      (λ t. let z : ◌≡◌ {A = ℕ} 0 1 = sym (zero-mul (arithmetic p v) r hr) ∙ ap (λ (x : ℕ). mul p x r) (sym (eqb-true a 0 t)) ∙ e in absurd (omega arith))
      (λ t. let n : (a ≡ 0 → ⊥) = eqb-false a 0 t in
      one_inverse (arithmetic p v) a r (inverse p a) ha hr (inverse_below ha) e (mul_inverse a (omega arith) ha))

-- modulo a prime the size is the prime
pub prime_inverse : (p : ℕ) → is_prime p ≡ true → (a r : ℕ) → a < p → r < p → mul p r a ≡ 1 → r ≡ inverse p a
prime_inverse p prime a r ha hr e =
    let v : is_field p ≡ true = prime_field p prime in
    let la : a < size_of p = rw (prime_size p prime) ha in
    let lr : r < size_of p = rw (prime_size p prime) hr in
    inverse_unique p v a r la lr ((arithmetic p v).mul_comm a r la lr ∙ e)
