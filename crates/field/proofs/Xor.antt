-- Exclusive or is associative, and passes through a doubling and through a product with a binary digit.
use mathlib.Core.Path.{◌≡◌, refl, sym, ap, ap₂, ◌∙◌}
use Prim.Native.Nat.{ℕ, zero, suc, ◌+◌, ◌*◌, ◌/◌, ◌%◌, ◌<◌}
use native.Mathlib.Nat.{mod-lt, mul-zero, mul-one, add-zero}
use native.Mathlib.Omega.{arith}
use lib.Dec.{lit<}
use lib.Arith.{bin_ind}
use lib.Bits.{bit_xor, differ, xor_step, xor_shr, xor_mod, xor_comm, xor_self, xor_zero_r, xor_block, xor_assoc}

-- the lowest digit of a number
pub digit : (n : ℕ) → n % 2 < 2
digit n = mod-lt n (lit< tt)

-- what is added twice is gone
pub xor_cancel : (a b : ℕ) → bit_xor (bit_xor a b) b ≡ a
xor_cancel a b = xor_assoc a b b ∙ ap (bit_xor a) (xor_self b) ∙ xor_zero_r a

-- the middle two of four change places
pub xor_swap : (a b c d : ℕ) → bit_xor (bit_xor a b) (bit_xor c d) ≡ bit_xor (bit_xor a c) (bit_xor b d)
xor_swap a b c d =
    xor_assoc a b (bit_xor c d)
    ∙ ap (bit_xor a) (sym (xor_assoc b c d) ∙ ap (λ (x : ℕ). bit_xor x d) (xor_comm b c) ∙ xor_assoc c b d)
    ∙ sym (xor_assoc a c (bit_xor b d))

-- a doubling passes through
pub xor_double : (a b : ℕ) → bit_xor a b * 2 ≡ bit_xor (a * 2) (b * 2)
xor_double a b =
    sym (add-zero (bit_xor a b * 2)) ∙ sym (xor_block 1 a b 0 0 (lit< tt) (lit< tt)) ∙ ap₂ bit_xor (add-zero (a * 2)) (add-zero (b * 2))

-- a product with a digit passes through, on the left
pub xor_times : (a b d : ℕ) → d < 2 → bit_xor a b * d ≡ bit_xor (a * d) (b * d)
xor_times a b zero h = rw (mul-zero (bit_xor a b), mul-zero a, mul-zero b)
xor_times a b (suc zero) h = rw (mul-one (bit_xor a b), mul-one a, mul-one b)
xor_times a b (suc (suc d)) h = absurd (omega arith)

-- and on the right
pub times_xor : (a d e : ℕ) → d < 2 → e < 2 → a * bit_xor d e ≡ bit_xor (a * d) (a * e)
times_xor a zero e hd he = rw (mul-zero a)
times_xor a (suc zero) zero hd he = rw (mul-zero a, mul-one a, xor_zero_r a)
times_xor a (suc zero) (suc zero) hd he = rw (mul-zero a, mul-one a, xor_self a)
times_xor a (suc zero) (suc (suc e)) hd he = absurd (omega arith)
times_xor a (suc (suc d)) e hd he = absurd (omega arith)
