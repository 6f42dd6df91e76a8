-- Products modulo a number.
use mathlib.Core.Path.{◌≡◌, sym, ap, ◌∙◌}
use Prim.Native.Nat.{ℕ, ◌+◌, ◌*◌, ◌%◌, ◌^◌, ◌≤◌, ◌<◌}
use native.Mathlib.Omega.{arith}
use native.Mathlib.Nat.{one-mul, mul-one, mul_comm, mul-add, mul-le-mul, mod-eq_of_lt, add-mod_right, mul_left_comm, mod-add-div, add-mul-mod_self_left}

-- a factor may be reduced first
pub mul_mod_mod : (a b m : ℕ) → a * (b % m) % m ≡ a * b % m
mul_mod_mod a b m =
    sym (ap (λ (x : ℕ). a * x % m) (sym (mod-add-div b m)) ∙ simp (mul-add, mul_left_comm a m, add-mul-mod_self_left))

pub mod_mul_mod : (a b m : ℕ) → a % m * b % m ≡ a * b % m
mod_mul_mod a b m = rw (mul_comm (a % m) b, mul_comm a b) (mul_mod_mod b a m)

-- 1 is neutral below m
pub one_mul_mod : {a m : ℕ} → a < m → 1 * a % m ≡ a
one_mul_mod {a} h = rw (one-mul a) (mod-eq_of_lt h)

pub mul_one_mod : {a m : ℕ} → a < m → a * 1 % m ≡ a
mul_one_mod {a} h = rw (mul-one a) (mod-eq_of_lt h)

-- a number below 2·m is reduced by one subtraction at most
pub mod_none : {n m : ℕ} → n < m → n ≡ n % m
mod_none h = sym (mod-eq_of_lt h)

pub mod_once : (n m r : ℕ) → r + m ≡ n → r < m → r ≡ n % m
mod_once n m r e h = sym (ap (λ (x : ℕ). x % m) (sym e) ∙ add-mod_right r m ∙ mod-eq_of_lt h)

-- a product of two numbers below 2^16 fits 32 bits
pub product_fits : (a b : ℕ) → a ≤ 65535 → b ≤ 65535 → a * b < 2 ^ 32
product_fits a b ha hb = omega (arith, mul-le-mul ha hb)
