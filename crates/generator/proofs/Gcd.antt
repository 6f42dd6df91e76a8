-- Euclid's algorithm computes the greatest common divisor.
use mathlib.Core.Path.{◌≡◌, refl, ap}
use Prim.Native.Nat.{ℕ, zero, suc, ◌+◌, ◌*◌, ◌/◌, ◌%◌, ◌<◌, ◌∣◌}
use native.Mathlib.Nat.{mul-one, mod-lt, zero-lt-suc, not-suc-le-zero, dvd-zero, dvd_refl, dvd-mod_iff, dvd-add_iff_right, dvd-mul_left_of_dvd, div-add-mod, pos_of_dvd_of_pos, mul-div_cancel', dvd_of_mul-dvd-mul_left}
use native.Mathlib.Omega.{arith}
use lib.Dec.{eqb-suc-zero}
use borrow.Author.Tests.{eq-eqb, ne_eqb}
use Rattle.generator.specs.Shifts.{gcd_from, gcd}

-- one step
gcd_step : (f a b : ℕ) → gcd_from (suc f) a (suc b) ≡ gcd_from f (suc b) (a % suc b)
unfolding gcd_from
gcd_step f a b = rw (eqb-suc-zero b)

-- with fuel: it divides both numbers
gcd_from_divides : (f a b : ℕ) → b < f → (gcd_from f a b ∣ a) × (gcd_from f a b ∣ b)
unfolding gcd_from
gcd_from_divides zero a b h = absurd (not-suc-le-zero h)
gcd_from_divides (suc f) a zero h = (dvd_refl a, dvd-zero a)
gcd_from_divides (suc f) a (suc b) h =
    let less = mod-lt a (zero-lt-suc b) in
    let ih = gcd_from_divides f (suc b) (a % suc b) (omega arith) in
    rw (gcd_step f a b) ((dvd-mod_iff _ ih.0).0 ih.1, ih.0)

-- with fuel: what divides a·x and b·x divides gcd(a, b)·x
gcd_from_greatest : (f a b e x : ℕ) → b < f → e ∣ a * x → e ∣ b * x → e ∣ gcd_from f a b * x
unfolding gcd_from
gcd_from_greatest zero a b e x h u v = absurd (not-suc-le-zero h)
gcd_from_greatest (suc f) a zero e x h u v = u
gcd_from_greatest (suc f) a (suc b) e x h u v =
    let less = mod-lt a (zero-lt-suc b) in
    let split : a * x ≡ a / suc b * (suc b * x) + a % suc b * x = omega (arith, ap (λ (y : ℕ). y * x) (div-add-mod a (suc b))) in
    let left = (dvd-add_iff_right e (dvd-mul_left_of_dvd e v (a / suc b))).1 (rw split at u) in
    rw (gcd_step f a b) (gcd_from_greatest f (suc b) (a % suc b) e x (omega arith) v left)

-- gcd(a, b) divides a
pub gcd_left : (a b : ℕ) → gcd a b ∣ a
unfolding gcd
gcd_left a b = (gcd_from_divides (suc b) a b (omega arith)).0

-- and b
pub gcd_right : (a b : ℕ) → gcd a b ∣ b
unfolding gcd
gcd_right a b = (gcd_from_divides (suc b) a b (omega arith)).1

-- what divides a·x and b·x divides gcd(a, b)·x
pub gcd_greatest : (a b e x : ℕ) → e ∣ a * x → e ∣ b * x → e ∣ gcd a b * x
unfolding gcd
gcd_greatest a b e x = gcd_from_greatest (suc b) a b e x (omega arith)

-- every common divisor divides it
pub divides_gcd : (a b e : ℕ) → e ∣ a → e ∣ b → e ∣ gcd a b
divides_gcd a b e u v = rw mul-one at (gcd_greatest a b e 1 (rw mul-one u) (rw mul-one v))

-- a is g times a / g
pub gcd_times : (a b : ℕ) → gcd a b * (a / gcd a b) ≡ a
gcd_times a b = mul-div_cancel' _ (gcd_left a b)

module _ (a b : ℕ) (pos : 0 < b) where
  -- it is not 0
  pub gcd_pos : 0 < gcd a b
  gcd_pos = pos_of_dvd_of_pos (gcd_right a b) pos

  -- what divides a·x and b·x, divided by g, divides x
  pub divides_cofactor : (c e x : ℕ) → gcd a b * c ≡ e → e ∣ a * x → e ∣ b * x → c ∣ x
  divides_cofactor c e x whole u v = dvd_of_mul-dvd-mul_left c gcd_pos (rw whole (gcd_greatest a b e x u v))

-- one step more, with less fuel
pub gcd_next : (f a b g : ℕ) → 0 < b → b < f → gcd_from f a b ≡ g → (n : ℕ) × (a % b < n) × (gcd_from n b (a % b) ≡ g)
unfolding gcd_from
gcd_next zero a b g pos h e = absurd (not-suc-le-zero h)
gcd_next (suc f) a b g pos h e = (f, omega (arith, mod-lt a pos), rw (ne_eqb b 0 (λ z. omega arith)) at e)

-- and no step more
pub gcd_end : (f a b g : ℕ) → b ≡ 0 → gcd_from f a b ≡ g → a ≡ g
unfolding gcd_from
gcd_end zero a b g z e = e
gcd_end (suc f) a b g z e = rw (eq-eqb b 0 z) at e

-- the sample with n = 6, k = 4, where document 001 misprints 3
pub gcd_sample : gcd 4 6 ≡ 2
unfolding gcd gcd_from
gcd_sample = refl
