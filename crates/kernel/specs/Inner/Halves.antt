-- Products of symbols of two bytes and weights of two bytes, summed by halves of 16 binary digits.
use Rattle.std.specs.Prelude.{◌≡◌, ℕ, ◌+◌, ◌-◌, ◌*◌, ◌%◌, true, List, length, slice_index}
use Rattle.lists.specs.Numbers.{all_below}
use Rattle.kernel.specs.Inner.Lanes.{lanewise}

-- symbol t of a row of high bytes and a row of low bytes, times the weight
unfoldable pub pair_product : ℕ → List ℕ → List ℕ → ℕ → ℕ
pair_product weight first second t = (slice_index first t * 256 + slice_index second t) * weight

-- f t added to each lane, modulo 65536
unfoldable pub wrapped : (ℕ → ℕ) → List ℕ → List ℕ
wrapped f acc = lanewise (λ t y. (y + f t) % 65536) acc

-- a sum of 16 binary digits for each of n lanes
pub record DigitSums (n : ℕ) (sums : List ℕ) : Type 0 where
  pub long : length sums ≡ n
  pub below : all_below 65536 sums ≡ true

-- a sum of at most 257 halves from the sum modulo 65536 and the sum of their upper bytes
unfoldable pub total_of : ℕ → ℕ → ℕ
total_of a b = b * 256 + (a + 65536 - b % 256 * 256) % 65536

-- a sum of products modulo p: of the lower halves a and b, of the upper ones c and d
unfoldable pub rest_of : ℕ → ℕ → ℕ → ℕ → ℕ → ℕ
rest_of p a b c d = (total_of c d * 65536 + total_of a b) % p
