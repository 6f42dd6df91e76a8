-- The shifts of the generator's rows. In comments d is n − k + 1.
use Rattle.std.specs.Prelude.{Bool, List, [], ◌∷◌, ◌++◌, ℕ, zero, suc, ◌+◌, ◌-◌, ◌*◌, ◌/◌, ◌%◌, eqb, ltb, get_or}
use Rattle.lists.specs.Choice.{pick}
use Rattle.lists.specs.Rows.{from}
use Rattle.generator.specs.declared.Header.{Header}

-- the greatest common divisor, by at most `left` steps of Euclid's algorithm
unfoldable pub gcd_from : ℕ → ℕ → ℕ → ℕ
gcd_from zero a b = a
gcd_from (suc left) a b = pick (eqb b 0) a (gcd_from left b (a % b))

unfoldable pub gcd : ℕ → ℕ → ℕ
gcd a b = gcd_from (suc b) a b

-- the place after this one on a round of so many
abbrev pub next_place : ℕ → ℕ → ℕ
next_place round place = pick (eqb (place + 1) round) 0 (place + 1)

-- of the `left` numbers from i on, going round: so many are taken, so many skipped, and so again; `place` is the place in the round
unfoldable pub shifts_from : ℕ → ℕ → ℕ → ℕ → ℕ → List ℕ
shifts_from zero i taken skipped place = []
shifts_from (suc left) i taken skipped place = pick (ltb place taken) (i ∷ []) [] ++ shifts_from left (i + 1) taken skipped (next_place (taken + skipped) place)

-- the rule of Lemma 2, with g = gcd(k, n) and d − 1 = n − k: k / g taken, (d − 1) / g skipped
unfoldable pub even_shifts : ℕ → ℕ → List ℕ
even_shifts n k = shifts_from n 0 (k / gcd k n) ((n - k) / gcd k n) 0

-- −x modulo n, for x up to n: the shift of a row by its first node, and the first node by the shift
unfoldable pub negative : ℕ → ℕ → ℕ
negative n x = (n - x) % n

-- the number of rows laid end to end before they come round: the period of the multiples of d modulo n
unfoldable pub period : ℕ → ℕ → ℕ
period n d = n / gcd n d

-- the node at which row r begins where rows are laid end to end; after each period they begin one node further
unfoldable pub laid_at : ℕ → ℕ → ℕ → ℕ
laid_at n d r = (r / period n d + r % period n d * d) % n

-- rows laid end to end
unfoldable pub laid_shifts : ℕ → ℕ → List ℕ
laid_shifts n k = from (λ r. negative n (laid_at n (n - k + 1) r)) 0 k

-- the test whether every node has the same share: n divides k·d
unfoldable pub is_even : ℕ → ℕ → Bool
is_even n k = eqb (k * (n - k + 1) % n) 0

-- the shifts of the k rows
unfoldable pub shifts_of : ℕ → ℕ → List ℕ
shifts_of n k = pick (is_even n k) (even_shifts n k) (laid_shifts n k)

abbrev pub shifts : Header → List ℕ
shifts h = shifts_of h.n h.k

-- the first nodes of the k rows, each its shift's negative
unfoldable pub firsts_of : ℕ → ℕ → List ℕ
firsts_of n k = from (λ r. negative n (get_or (shifts_of n k) r 0)) 0 k

abbrev pub firsts : Header → List ℕ
firsts h = firsts_of h.n h.k
