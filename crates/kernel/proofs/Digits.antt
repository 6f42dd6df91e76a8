-- The steps of the product of bytes with no branch: a digit as a mask, and a product with x in eight digits.
use Rattle.std.proofs.Common.{◌≡◌, ℕ, zero, suc, ◌+◌, ◌*◌, ◌/◌, ◌%◌, ◌<◌, ◌∙◌, mod-eq_of_lt, mul-zero, mul-one, arith, bit_and, bit_xor}
use lib.Bits.{and_zero_r, and_mask}
use Rattle.field.specs.Bytes.{times_x}
use Rattle.field.proofs.Computed.{equal_at}

-- the mask m is 0 for the digit 0 and 255 for the digit 1
pub masked : (a d m : ℕ) → a < 256 → d < 2 → m < 256 → (m + d) % 256 ≡ 0 → bit_and a m ≡ a * d
masked a zero m ha hd hm e =
    let none : m ≡ 0 = omega arith in
    rw (none, mul-zero) (and_zero_r a)
masked a (suc zero) m ha hd hm e =
    let all : m ≡ 255 = omega arith in
    rw (all, mul-one) (and_mask a 8 ∙ mod-eq_of_lt ha)
masked a (suc (suc d)) m ha hd hm e = absurd (omega arith)

-- what is shifted out at the top comes back as 0x1D
pub times_x_masked : (a : ℕ) → a < 256 → bit_xor (a * 2 % 256) (29 * (a / 128)) ≡ times_x a
unfolding times_x
times_x_masked = equal_at 256 (λ a. bit_xor (a * 2 % 256) (29 * (a / 128))) times_x tt
