-- The field of 256 elements: bytes as polynomials over two elements modulo x^8 + x^4 + x^3 + x^2 + 1 (0x11D). The sum is `bit_xor`.
use Rattle.std.specs.Prelude.{ℕ, zero, suc, ◌*◌, ◌/◌, ◌%◌}
use Rattle.std.specs.Int.Bits.{bit_xor}

-- x times a byte: doubled, and 0x11D taken away where the eighth power of x appears
unfoldable pub times_x : ℕ → ℕ
times_x a = bit_xor (a * 2) (285 * (a / 128))

-- a times the `left` low digits of b
unfoldable pub product_from : ℕ → ℕ → ℕ → ℕ
product_from zero a b = 0
product_from (suc left) a b = bit_xor (a * (b % 2)) (product_from left (times_x a) (b / 2))

unfoldable pub product : ℕ → ℕ → ℕ
product a b = product_from 8 a b
