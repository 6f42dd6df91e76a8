-- Inverses modulo a prime p: from t·a = x and p = q·x + r to a smaller x, down to 1.
use mathlib.Core.Path.{◌≡◌, sym, ap, ◌∙◌, ◌≡⟨◌⟩◌, ◌∎}
use mathlib.Core.Bool.{true}
use Prim.Native.Nat.{ℕ, zero, suc, ◌+◌, ◌-◌, ◌*◌, ◌/◌, ◌%◌, ◌≤◌, ◌<◌}
use native.Mathlib.Omega.{arith}
use native.Mathlib.Nat as N
use borrow.Author.Tests.{eqb-true, eqb-false}
use lib.Dec.{eqb}
use Rattle.lists.proofs.Cases.{by_test}
use Rattle.field.specs.Primes.{is_prime}
use Rattle.field.specs.Fields.{sub, mul}
use Rattle.field.proofs.Modular.{mul_mod_mod, mod_mul_mod, one_mul_mod}
use Rattle.field.proofs.Primes.{two≤prime, prime_no_divisor}
use Rattle.field.proofs.Meanings.{sub_modulo, mul_modulo}

-- where w·a + r is a multiple of p, (p − w)·a is r
negated : (p w a r : ℕ) → w ≤ p → r < p → (w * a + r) % p ≡ 0 → (p - w) * a % p ≡ r
negated p w a r low small e =
    let v = (p - w) * a in
    let whole : v + (w * a + r) ≡ p * a + r =
    omega (arith, ap (λ (x : ℕ). x * a) (N.sub-add_cancel low), N.add-mul (p - w) w a) in
    v % p ≡⟨ ap (λ (y : ℕ). y % p) (sym (N.add-zero v)) ∙ ap (λ (y : ℕ). (v + y) % p) (sym e) ⟩
    (v + (w * a + r) % p) % p ≡⟨ N.add-mod-mod v (w * a + r) p ∙ ap (λ (y : ℕ). y % p) whole ⟩
    (p * a + r) % p ≡⟨ N.mul-add-mod_self_left p a r ∙ N.mod-eq_of_lt small ⟩
    r ∎

module _ (p a x t : ℕ) (pos : 0 < x) (below : x < p) (so_far : t * a % p ≡ x) where
  -- (k·t)·a is k·x
  scaled : (k : ℕ) → k * t % p * a % p ≡ k * x % p
  scaled k =
      mod_mul_mod (k * t) a p ∙ ap (λ (y : ℕ). y % p) (N.mul_assoc k t a) ∙ sym (mul_mod_mod k (t * a) p)
      ∙ ap (λ (y : ℕ). k * y % p) so_far

  rest_below : p % x < x
  rest_below = N.mod-lt p pos

  -- r = p % x is (−q·t)·a
  step_down : (0 + (p - p / x * t % p)) % p * a % p ≡ p % x
  step_down =
      let w = p / x * t % p in
      let small : p % x < p = omega (arith, rest_below) in
      mod_mul_mod (0 + (p - w)) a p ∙ ap (λ (y : ℕ). y * a % p) (N.zero-add (p - w))
      ∙ negated p w a (p % x) (N.le_of_lt (N.mod-lt _ (omega arith))) small
      (sym (N.mod-add-mod (w * a) p (p % x)) ∙ ap (λ (y : ℕ). (y + p % x) % p) (scaled (p / x))
      ∙ N.mod-add-mod (p / x * x) p (p % x) ∙ ap (λ (y : ℕ). y % p) (N.div-add-mod' p x) ∙ N.mod_self p)

  -- x − r is ((q + 1)·t)·a
  step_up : (p / x + 1) * t % p * a % p ≡ x - p % x
  step_up =
      let whole : (p / x + 1) * x ≡ p + (x - p % x) =
      omega (arith, N.add-mul (p / x) 1 x, N.div-add-mod' p x, rest_below) in
      scaled (p / x + 1) ∙ ap (λ (y : ℕ). y % p) whole ∙ N.add-mod_left p (x - p % x) ∙ N.mod-eq_of_lt (omega arith)

module _ (p : ℕ) (prime : is_prime p ≡ true) where
  -- a step's rest is not 0, and its quotient is small
  pub step_bounds : (x : ℕ) → 0 < x → (x ≡ 1 → ⊥) → x < p → (0 < p % x) × (p % x < x) × (p / x + 1 < p)
  step_bounds x pos more below =
      let two : 2 ≤ x = omega arith in
      let rest_pos : 0 < p % x = N.pos_of_ne-zero (prime_no_divisor p prime x two below) in (
        rest_pos,
        N.mod-lt p pos,
        omega (arith, N.div-add-mod' p x, N.mul-le-mul_left (p / x) two, N.mod-lt p pos),
      )

  -- where t·a is x, some t below p has t·a = 1: at most f steps lead there
  steps : (a f x t : ℕ) → x ≤ f → 0 < x → x < p → t < p → t * a % p ≡ x → (r : ℕ) × (r < p) × (r * a % p ≡ 1)
  steps a zero x t fuel pos below small so_far = absurd (omega arith)
  steps a (suc f) x t fuel pos below small so_far =
      by_test (eqb x 1)
      (λ e. (t, small, so_far ∙ eqb-true x 1 e))
      (λ e. steps a f (p % x) ((0 + (p - p / x * t % p)) % p)
      (omega (arith, N.mod-lt p pos))
      (step_bounds x pos (eqb-false x 1 e) below).0
      (omega (arith, N.mod-lt p pos))
      (N.mod-lt _ (omega arith))
      (step_down p a x t pos below so_far))

  -- each a from 1 to p − 1 has an inverse below p
  pub prime_invertible : (a : ℕ) → 0 < a → a < p → (r : ℕ) × (r < p) × (a * r % p ≡ 1)
  prime_invertible a pos below =
      let found = steps a a a 1 (N.le_refl a) pos below (two≤prime p prime) (one_mul_mod below) in
      (found.0, found.1, rw (N.mul_comm a found.0) found.2)

-- the loop of the code: it starts at 1·a = a, and takes the same two steps
pub turn_start : (p a : ℕ) → a < p → mul p 1 a ≡ a
turn_start p a h = mul_modulo p (omega arith) 1 a ∙ one_mul_mod h

module _ (p a x t : ℕ) (pos : 0 < x) (below : x < p) (so_far : mul p t a ≡ x) where
  positive : 0 < p
  positive = omega arith

  so : t * a % p ≡ x
  so = sym (mul_modulo p positive t a) ∙ so_far

  pub turn_down : mul p (sub p 0 (mul p (p / x) t)) a ≡ p % x
  turn_down = simp (mul_modulo p positive, sub_modulo p positive) (step_down p a x t pos below so)

  pub turn_up : mul p (mul p (p / x + 1) t) a ≡ x - p % x
  turn_up = simp (mul_modulo p positive) (step_up p a x t pos below so)
