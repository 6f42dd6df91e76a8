-- The product of bytes: it is a byte, additive in each argument, commutative and associative, and has 1.
use mathlib.Core.Path.{◌≡◌, refl, sym, ap, ap₂, ◌∙◌}
use Prim.Native.Nat.{ℕ, zero, suc, ◌*◌, ◌/◌, ◌%◌, ◌^◌, ◌<◌}
use native.Mathlib.Nat.{mul-zero, mul-one}
use native.Mathlib.Omega.{arith}
use lib.Dec.{lit<, ltb, ltb→lt}
use lib.Bits.{bit_xor, xor_lt, xor_shr, xor_mod}
use Rattle.field.specs.Bytes.{times_x, product_from, product}
use Rattle.field.proofs.Computed.{at, equal_at, equal_at₂}
use Rattle.field.proofs.Xor.{digit, xor_swap, xor_double, xor_times, times_xor}
use Rattle.field.proofs.Additive.{Additive, additive_zero, agree}

pub times_x_byte : (a : ℕ) → a < 256 → times_x a < 256
unfolding times_x
times_x_byte a ha = ltb→lt (times_x a) 256 (at 256 (λ a. ltb (times_x a) 256) tt a ha)

-- a doubling is additive, whatever m is put in for the eighth power of x
doubled_additive : (m : ℕ) → Additive (λ a. bit_xor (a * 2) (m * (a / 128)))
doubled_additive m a b ha hb =
    ap₂ bit_xor (xor_double a b)
    (ap (λ (x : ℕ). m * x) (xor_shr a b 7) ∙ times_xor m (a / 128) (b / 128) (omega arith) (omega arith))
    ∙ xor_swap (a * 2) (b * 2) (m * (a / 128)) (m * (b / 128))

pub times_x_additive : Additive times_x
unfolding times_x
times_x_additive = doubled_additive _

-- a times a digit is a byte
pub times_digit : (a d : ℕ) → a < 256 → d < 2 → a * d < 256
times_digit a zero ha hd = rw (mul-zero a) (lit< tt)
times_digit a (suc zero) ha hd = rw (mul-one a) ha
times_digit a (suc (suc d)) ha hd = absurd (omega arith)

-- a map that takes 0 to 0 passes through a product with a digit
digit_out : (f : ℕ → ℕ) → f 0 ≡ 0 → (a d : ℕ) → d < 2 → f a * d ≡ f (a * d)
digit_out f z a zero hd = rw (mul-zero a, mul-zero (f a)) (sym z)
digit_out f z a (suc zero) hd = rw (mul-one a, mul-one (f a)) refl
digit_out f z a (suc (suc d)) hd = absurd (omega arith)

pub product_from_byte : (f a b : ℕ) → a < 256 → product_from f a b < 256
unfolding product_from
product_from_byte zero a b ha = lit< tt
product_from_byte (suc f) a b ha =
    xor_lt 8 (a * (b % 2)) (product_from f (times_x a) (b / 2)) (times_digit a (b % 2) ha (digit b))
    (product_from_byte f (times_x a) (b / 2) (times_x_byte a ha))

product_from_left : (f b : ℕ) → Additive (λ a. product_from f a b)
unfolding product_from
product_from_left zero b a a' ha ha' = refl
product_from_left (suc f) b a a' ha ha' =
    ap₂ bit_xor (xor_times a a' (b % 2) (digit b))
    (ap (λ (x : ℕ). product_from f x (b / 2)) (times_x_additive a a' ha ha')
    ∙ product_from_left f (b / 2) (times_x a) (times_x a') (times_x_byte a ha) (times_x_byte a' ha'))
    ∙ xor_swap (a * (b % 2)) (a' * (b % 2)) (product_from f (times_x a) (b / 2)) (product_from f (times_x a') (b / 2))

product_from_right : (f a b c : ℕ) → product_from f a (bit_xor b c) ≡ bit_xor (product_from f a b) (product_from f a c)
unfolding product_from
product_from_right zero a b c = refl
product_from_right (suc f) a b c =
    ap₂ bit_xor (ap (λ (x : ℕ). a * x) (xor_mod b c 1) ∙ times_xor a (b % 2) (c % 2) (digit b) (digit c))
    (ap (product_from f (times_x a)) (xor_shr b c 1) ∙ product_from_right f (times_x a) (b / 2) (c / 2))
    ∙ xor_swap (a * (b % 2)) (a * (c % 2)) (product_from f (times_x a) (b / 2)) (product_from f (times_x a) (c / 2))

pub product_byte : (a b : ℕ) → a < 256 → product a b < 256
unfolding product
product_byte a b ha = product_from_byte 8 a b ha

pub product_left : (b : ℕ) → Additive (λ a. product a b)
unfolding product
product_left b = product_from_left 8 b

pub product_right : (a : ℕ) → Additive (product a)
unfolding product
product_right a b c hb hc = product_from_right 8 a b c

pub product_zero : (a : ℕ) → product a 0 ≡ 0
product_zero a = additive_zero (product a) (product_right a)

pub product_one : (a : ℕ) → a < 256 → product a 1 ≡ a
unfolding product product_from times_x
product_one = agree (λ a. product a 1) (λ a. a) (product_left 1) (λ a b ha hb. refl) (equal_at 8 (λ i. product (2 ^ i) 1) (λ i. 2 ^ i) tt)

-- x times a byte as a product
pub product_two : (b : ℕ) → b < 256 → product b 2 ≡ times_x b
unfolding product product_from times_x
product_two = agree (λ b. product b 2) times_x (product_left 2) times_x_additive (equal_at 8 (λ i. product (2 ^ i) 2) (λ i. times_x (2 ^ i)) tt)

-- two powers of x commute, so x^i and a byte do, so two bytes do
basis_comm : (i j : ℕ) → i < 8 → j < 8 → product (2 ^ i) (2 ^ j) ≡ product (2 ^ j) (2 ^ i)
unfolding product product_from times_x
basis_comm = equal_at₂ 8 8 (λ i j. product (2 ^ i) (2 ^ j)) (λ i j. product (2 ^ j) (2 ^ i)) tt

power_comm : (i : ℕ) → i < 8 → (b : ℕ) → b < 256 → product (2 ^ i) b ≡ product b (2 ^ i)
power_comm i hi = agree (product (2 ^ i)) (λ b. product b (2 ^ i)) (product_right (2 ^ i)) (product_left (2 ^ i)) (λ j hj. basis_comm i j hi hj)

pub product_comm : (a b : ℕ) → a < 256 → b < 256 → product a b ≡ product b a
product_comm a b ha hb = agree (λ a. product a b) (product b) (product_left b) (product_right b) (λ i hi. power_comm i hi b hb) a ha

-- x passes out of a product, on the left and on the right
product_from_times_x : (f a b : ℕ) → a < 256 → product_from f (times_x a) b ≡ times_x (product_from f a b)
unfolding product_from times_x
product_from_times_x zero a b ha = refl
product_from_times_x (suc f) a b ha =
    ap₂ bit_xor (digit_out times_x refl a (b % 2) (digit b)) (product_from_times_x f (times_x a) (b / 2) (times_x_byte a ha))
    ∙ sym (times_x_additive (a * (b % 2)) (product_from f (times_x a) (b / 2)) (times_digit a (b % 2) ha (digit b))
    (product_from_byte f (times_x a) (b / 2) (times_x_byte a ha)))

pub product_times_x : (a b : ℕ) → a < 256 → b < 256 → product a (times_x b) ≡ times_x (product a b)
unfolding product
product_times_x a b ha hb =
    product_comm a (times_x b) ha (times_x_byte b hb) ∙ product_from_times_x 8 b a hb ∙ ap times_x (product_comm b a hb ha)

-- the product with c, digit by digit of c
product_from_assoc : (f a b c : ℕ) → a < 256 → b < 256 → product_from f (product a b) c ≡ product a (product_from f b c)
unfolding product_from
product_from_assoc zero a b c ha hb = sym (product_zero a)
product_from_assoc (suc f) a b c ha hb =
    ap₂ bit_xor (digit_out (product a) (product_zero a) b (c % 2) (digit c))
    (ap (λ (x : ℕ). product_from f x (c / 2)) (sym (product_times_x a b ha hb))
    ∙ product_from_assoc f a (times_x b) (c / 2) ha (times_x_byte b hb))
    ∙ sym (product_right a (b * (c % 2)) (product_from f (times_x b) (c / 2)) (times_digit b (c % 2) hb (digit c))
    (product_from_byte f (times_x b) (c / 2) (times_x_byte b hb)))

pub product_assoc : (a b c : ℕ) → a < 256 → b < 256 → product (product a b) c ≡ product a (product b c)
unfolding product
product_assoc a b c ha hb = product_from_assoc 8 a b c ha hb
