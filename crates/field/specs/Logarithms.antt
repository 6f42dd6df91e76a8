-- What makes two lists tables of the field of 256 elements: the powers of 2 at the exponents 0 to 254, and the logarithm of each byte but 0, that of a
-- at a − 1.
use Rattle.std.specs.Prelude.{◌≡◌, List, ℕ, ◌+◌, ◌-◌, ◌<◌, get_or}
use Rattle.field.specs.Bytes.{product}

pub record ArePowersAndLogarithms (powers logarithms : List ℕ) : Type 0 where
  -- the power at 0 is 1, and each next is 2 times the one before
  pub first : get_or powers 0 0 ≡ 1
  pub next : (e : ℕ) → e < 254 → get_or powers (e + 1) 0 ≡ product 2 (get_or powers e 0)
  -- the logarithm of the power at e is e
  pub logarithm : (e : ℕ) → e < 255 → get_or logarithms (get_or powers e 0 - 1) 0 ≡ e
  -- every byte but 0 is the power at its logarithm
  pub below : (a : ℕ) → 0 < a → a < 256 → get_or logarithms (a - 1) 0 < 255
  pub power : (a : ℕ) → 0 < a → a < 256 → get_or powers (get_or logarithms (a - 1) 0) 0 ≡ a
