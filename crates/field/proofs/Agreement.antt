-- The arithmetic of document 03 (specs/Fields.antt), as it stands there but shut, and that ours is the same on symbols.
use mathlib.Core.Path.{◌≡◌, refl, sym, ap, ap₂, ◌∙◌}
use mathlib.Core.Bool.{Bool, true, false, ◌&&◌, ◌||◌, not}
use Prim.Native.Nat.{ℕ, zero, suc, ◌+◌, ◌-◌, ◌*◌, ◌/◌, ◌%◌, ◌^◌, ◌≤◌, ◌<◌}
use native.Mathlib.Nat.{pow-suc, mul-zero, mul-one, add_comm, mul_comm, mod-zero}
use native.Mathlib.Numerals.{add-one}
use native.Mathlib.Omega.{arith}
use borrow.Author.Tests.{ltb-true, ltb-false}
use lib.Arith.{lt-one}
use lib.Bits.{bit_xor, differ, xor_step, xor_zero_r}
use lib.Dec.{eqb, ltb, leb, eqb-suc-zero}
use Rattle.lists.specs.Choice.{pick, when}
use Rattle.lists.proofs.Cases.{by_test}
use Rattle.field.specs.Primes as P
use Rattle.field.specs.Bytes as B
use Rattle.field.specs.Fields as F
use Rattle.field.proofs.Computed.{equal_at₂}
use Rattle.field.proofs.Xor.{digit}
use Rattle.field.proofs.Product.{times_x_byte, times_digit, product_from_byte}

abbrev pub rest : ℕ → ℕ → ℕ
rest a zero = a
rest a (suc p) = a % suc p

unfoldable pub size_of : ℕ → ℕ
size_of p = pick (eqb p 0) 256 p

unfoldable pub xor_from : ℕ → ℕ → ℕ → ℕ
xor_from zero a b = 0
xor_from (suc f) a b = when (not (eqb (a % 2) (b % 2))) 1 + 2 * xor_from f (a / 2) (b / 2)

unfoldable pub xor : ℕ → ℕ → ℕ
xor a b = xor_from 16 a b

unfoldable pub times_x : ℕ → ℕ
times_x a = pick (ltb a 128) (2 * a) (xor (2 * a) 285)

unfoldable pub product_from : ℕ → ℕ → ℕ → ℕ
product_from zero a b = 0
product_from (suc f) a b = xor (when (eqb (b % 2) 1) a) (product_from f (times_x a) (b / 2))

unfoldable pub add : ℕ → ℕ → ℕ → ℕ
add p a b = pick (eqb p 0) (xor a b) (rest (a + b) p)

unfoldable pub sub : ℕ → ℕ → ℕ → ℕ
sub p a b = pick (eqb p 0) (xor a b) (rest (a + (p - b)) p)

unfoldable pub mul : ℕ → ℕ → ℕ → ℕ
mul p a b = pick (eqb p 0) (product_from 8 a b) (rest (a * b) p)

unfoldable pub power : ℕ → ℕ → ℕ → ℕ
power p a zero = 1
power p a (suc e) = mul p a (power p a e)

unfoldable pub divides_some : ℕ → ℕ → Bool
divides_some zero p = false
divides_some (suc d) p = (leb 2 (suc d) && eqb (rest p (suc d)) 0) || divides_some d p

unfoldable pub is_prime : ℕ → Bool
is_prime p = leb 2 p && not (divides_some (p - 1) p)

unfoldable pub order_from : ℕ → ℕ → ℕ → ℕ → ℕ → ℕ
order_from zero e p a x = 0
order_from (suc f) e p a x = elim (eqb x 1) [ true ↦ e | false ↦ order_from f (suc e) p a (mul p a x) ]

unfoldable pub order_of : ℕ → ℕ → ℕ
order_of p a = order_from 256 1 p a a

-- remainders, for every modulus
pub rest_agrees : (a p : ℕ) → rest a p ≡ a % p
rest_agrees a zero = sym (mod-zero a)
rest_agrees a (suc p) = refl

pub size_of_agrees : (p : ℕ) → size_of p ≡ F.size_of p
unfolding size_of F.size_of
size_of_agrees p = refl

-- primes
divides_some_agrees : (d p : ℕ) → divides_some d p ≡ P.divides_some d p
unfolding divides_some P.divides_some
divides_some_agrees zero p = refl
divides_some_agrees (suc d) p = ap (λ (b : Bool). (leb 2 (suc d) && eqb (p % suc d) 0) || b) (divides_some_agrees d p)

pub is_prime_agrees : (p : ℕ) → is_prime p ≡ P.is_prime p
unfolding is_prime P.is_prime
is_prime_agrees p = ap (λ (b : Bool). leb 2 p && not b) (divides_some_agrees (p - 1) p)

-- f digits of a sum of numbers of f digits
digits_differ : (d e : ℕ) → d < 2 → e < 2 → when (not (eqb d e)) 1 ≡ differ d e
digits_differ = equal_at₂ 2 2 (λ d e. when (not (eqb d e)) 1) differ tt

half_below : (k a : ℕ) → a < 2 ^ suc k → a / 2 < 2 ^ k
half_below k a h = let g : a < 2 ^ k * 2 = rw (pow-suc 2 k) at h in omega arith

xor_from_agrees : (f a b : ℕ) → a < 2 ^ f → b < 2 ^ f → xor_from f a b ≡ bit_xor a b
unfolding xor_from
xor_from_agrees zero a b ha hb = rw (lt-one ha, lt-one hb)
xor_from_agrees (suc f) a b ha hb =
    add_comm (when (not (eqb (a % 2) (b % 2))) 1) (2 * xor_from f (a / 2) (b / 2))
    ∙ ap₂ ◌+◌
    (mul_comm 2 (xor_from f (a / 2) (b / 2)) ∙ ap (λ (x : ℕ). x * 2) (xor_from_agrees f (a / 2) (b / 2) (half_below f a ha) (half_below f b hb)))
    (digits_differ (a % 2) (b % 2) (digit a) (digit b))
    ∙ sym (xor_step a b)

pub xor_agrees : (a b : ℕ) → a < 65536 → b < 65536 → xor a b ≡ bit_xor a b
unfolding xor
xor_agrees a b ha hb = xor_from_agrees 16 a b ha hb

times_x_agrees : (a : ℕ) → a < 256 → times_x a ≡ B.times_x a
unfolding times_x B.times_x
times_x_agrees a ha =
    by_test (ltb a 128)
    (λ t. let l : a < 128 = ltb-true a 128 t in
    let z : a / 128 ≡ 0 = omega arith in
    rw (t, z, mul_comm 2 a) (sym (xor_zero_r (a * 2))))
    (λ t. let l : 128 ≤ a = ltb-false a 128 t in
    let z : a / 128 ≡ 1 = omega arith in
    rw (t, z, mul_comm 2 a) (xor_agrees (a * 2) 285 (omega arith) (omega arith)))

when_agrees : (a d : ℕ) → d < 2 → when (eqb d 1) a ≡ a * d
when_agrees a zero h = sym (mul-zero a)
when_agrees a (suc zero) h = sym (mul-one a)
when_agrees a (suc (suc d)) h = absurd (omega arith)

product_from_agrees : (f a b : ℕ) → a < 256 → product_from f a b ≡ B.product_from f a b
unfolding product_from B.product_from
product_from_agrees zero a b ha = refl
product_from_agrees (suc f) a b ha =
    let low : a * (b % 2) < 256 = times_digit a (b % 2) ha (digit b) in
    let high : B.product_from f (B.times_x a) (b / 2) < 256 = product_from_byte f (B.times_x a) (b / 2) (times_x_byte a ha) in
    ap₂ xor (when_agrees a (b % 2) (digit b))
    (ap (λ (x : ℕ). product_from f x (b / 2)) (times_x_agrees a ha) ∙ product_from_agrees f (B.times_x a) (b / 2) (times_x_byte a ha))
    ∙ xor_agrees (a * (b % 2)) (B.product_from f (B.times_x a) (b / 2)) (omega arith) (omega arith)

-- sums, differences and products of symbols, for every p
pub add_agrees : (p a b : ℕ) → a < F.size_of p → b < F.size_of p → add p a b ≡ F.add p a b
unfolding add F.add F.size_of
add_agrees zero a b ha hb = xor_agrees a b (omega arith) (omega arith)
add_agrees (suc p) a b ha hb = rw (eqb-suc-zero p)

pub sub_agrees : (p a b : ℕ) → a < F.size_of p → b < F.size_of p → sub p a b ≡ F.sub p a b
unfolding sub F.sub F.size_of
sub_agrees zero a b ha hb = xor_agrees a b (omega arith) (omega arith)
sub_agrees (suc p) a b ha hb = rw (eqb-suc-zero p)

pub mul_agrees : (p a b : ℕ) → a < F.size_of p → mul p a b ≡ F.mul p a b
unfolding mul F.mul F.size_of B.product
mul_agrees zero a b ha = product_from_agrees 8 a b ha
mul_agrees (suc p) a b ha = rw (eqb-suc-zero p)

-- powers and orders of symbols
pub power_agrees : (p a e : ℕ) → a < F.size_of p → power p a e ≡ F.power p a e
unfolding power F.power
power_agrees p a zero ha = refl
power_agrees p a (suc e) ha = mul_agrees p a (power p a e) ha ∙ ap (F.mul p a) (power_agrees p a e ha)

order_from_agrees : (f e p a x : ℕ) → a < F.size_of p → order_from f e p a x ≡ F.order_from f e p a x
unfolding order_from F.order_from
order_from_agrees zero e p a x ha = refl
order_from_agrees (suc f) e p a x ha =
    by_test (eqb x 1)
    (λ t. rw (t, order_from))
    (λ t. rw (t, order_from, add-one e) (ap (order_from f (suc e) p a) (mul_agrees p a x ha) ∙ order_from_agrees f (suc e) p a (F.mul p a x) ha))

pub order_of_agrees : (p a : ℕ) → a < F.size_of p → order_of p a ≡ F.order_of p a
unfolding order_of F.order_of
order_of_agrees p a ha = order_from_agrees 256 1 p a a ha
