-- Weights over a prime field of bytes, and their ratios to the prime.
use Rattle.std.specs.Prelude.{◌≡◌, ℕ, ◌+◌, ◌*◌, ◌/◌, ◌<◌, ◌≤◌, List, length, slice_index}

-- 65536 times the quotient of c by p
unfoldable pub ratio_of : ℕ → ℕ → ℕ
ratio_of p c = c * 65536 / p

-- the ratio of each weight at its place
pub record Ratios (p : ℕ) (codes : List ℕ) : Type 0 where
  pub long : length codes ≡ 256
  pub at : (c : ℕ) → c < p → slice_index codes c ≡ ratio_of p c

-- a list of weights, and after them their ratios
pub record Scaled (p : ℕ) (ws list : List ℕ) : Type 0 where
  pub few : length ws ≤ 255
  pub long : 2 * length ws ≤ length list
  pub weights : (i : ℕ) → i < length ws → slice_index list i ≡ slice_index ws i
  pub ratios : (i : ℕ) → i < length ws → slice_index list (length ws + i) ≡ ratio_of p (slice_index ws i)

-- the same, said of the list alone
pub record InScale (p rows : ℕ) (list : List ℕ) : Type 0 where
  pub few : rows ≤ 255
  pub long : 2 * rows ≤ length list
  pub below : (i : ℕ) → i < rows → slice_index list i < p
  pub ratios : (i : ℕ) → i < rows → slice_index list (rows + i) ≡ ratio_of p (slice_index list i)
