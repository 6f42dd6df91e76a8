-- Sums over the numbers below a count.
use Rattle.std.specs.Prelude.{ℕ, zero, suc, ◌+◌}

-- g 0 + … + g (count − 1)
unfoldable pub sum : ℕ → (ℕ → ℕ) → ℕ
sum zero g = 0
sum (suc count) g = g count + sum count g
