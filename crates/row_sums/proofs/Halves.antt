-- Sums of products by halves of 16 binary digits, held in four sums of 16 digits.
use mathlib.Core.Path.{◌≡◌, ap, ap₂, ◌∙◌}
use Prim.Native.Nat.{ℕ, ◌+◌, ◌*◌, ◌/◌, ◌%◌, ◌≤◌, ◌<◌}
use native.Mathlib.Omega.{arith}
use Rattle.kernel.specs.Inner.Halves.{total_of, rest_of}

-- the sum of n numbers below 65536: a is the sum modulo 65536, b the sum of their upper bytes
pub record Half (n a b whole : ℕ) : Type 0 where
  pub rest : a ≡ whole % 65536
  pub under : 256 * b ≤ whole
  pub near : whole ≤ 256 * b + 255 * n
  pub small : b ≤ 255 * n

-- one number more
pub half_more : (n a b whole x : ℕ) → n < 255 → x < 65536 → Half n a b whole → Half (n + 1) ((a + x) % 65536) ((b + x / 256) % 65536) (whole + x)
half_more n a b whole x few two h =
    record { rest = omega (arith, h.rest); under = omega (arith, h.under, h.small); near = omega (arith, h.near, h.small); small = omega (arith, h.small) }

pub half_total : (n a b whole : ℕ) → n ≤ 255 → Half n a b whole → total_of a b ≡ whole
unfolding total_of
half_total n a b whole few h = omega (arith, h.rest, h.under, h.near)

-- n products by halves; with rest they make whole
pub record Halves (n a b c d rest whole : ℕ) : Type 0 where
  pub lower : ℕ
  pub upper : ℕ
  pub low : Half n a b lower
  pub high : Half n c d upper
  pub both : lower + upper * 65536 + rest ≡ whole

pub halves_none : (whole : ℕ) → Halves 0 0 0 0 0 whole whole
halves_none whole =
    record {
      lower = 0;
      upper = 0;
      low = record { rest = omega arith; under = omega arith; near = omega arith; small = omega arith };
      high = record { rest = omega arith; under = omega arith; near = omega arith; small = omega arith };
      both = omega arith;
    }

-- product m more
pub halves_more : (n a b c d m rest whole : ℕ) → n < 255 → m ≤ 4294836225 → Halves n a b c d (m + rest) whole → Halves (n + 1) ((a + m % 65536) % 65536) ((b + m % 65536 / 256) % 65536) ((c + m / 65536) % 65536) ((d + m / 65536 / 256) % 65536) rest whole
halves_more n a b c d m rest whole few two h =
    record {
      lower = h.lower + m % 65536;
      upper = h.upper + m / 65536;
      low = half_more n a b h.lower (m % 65536) few (omega arith) h.low;
      high = half_more n c d h.upper (m / 65536) few (omega arith) h.high;
      both = omega (arith, h.both);
    }

pub halves_rest : (p n a b c d whole : ℕ) → n ≤ 255 → Halves n a b c d 0 whole → rest_of p a b c d ≡ whole % p
unfolding rest_of
halves_rest p n a b c d whole few h =
    let both : h.upper * 65536 + h.lower ≡ whole = omega (arith, h.both) in
    ap₂ (λ (x y : ℕ). (x * 65536 + y) % p) (half_total n c d h.upper few h.high) (half_total n a b h.lower few h.low)
    ∙ ap (λ (x : ℕ). x % p) both
