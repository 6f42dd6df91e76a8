-- Primes by trial division.
use Rattle.std.specs.Prelude.{Bool, false, ◌&&◌, ◌||◌, not, ℕ, zero, suc, ◌-◌, ◌%◌, eqb, leb}

-- some number from 2 to a divides p
unfoldable pub divides_some : ℕ → ℕ → Bool
divides_some zero p = false
divides_some (suc a) p = (leb 2 (suc a) && eqb (p % suc a) 0) || divides_some a p

unfoldable pub is_prime : ℕ → Bool
is_prime p = leb 2 p && not (divides_some (p - 1) p)
