-- The k for which n divides k·d, so that every node can depend on the same number of symbols: for bytes, at each n.
use mathlib.Core.Path.{◌≡◌, refl}
use mathlib.Core.List.{List, [], ◌∷◌}
use Prim.Native.Nat.{ℕ}
use Rattle.lists.specs.Counting.{passing_from}
use Rattle.lists.proofs.All.{All}
use Rattle.generator.specs.Shifts.{is_even}

-- the k from 1 to n for which n divides k·d
unfoldable pub even_sizes : ℕ → List ℕ
even_sizes n = passing_from n 1 (is_even n)

-- n and those k
pub data Case : Type 0 where
  even : (n : ℕ) (ks : List ℕ) → Case

unfoldable pub Says : Case → Type 0
Says (even n ks) = even_sizes n ≡ ks

-- every n that bytes have: the divisors of 255 from 2 up
unfoldable pub sizes : List Case
sizes =
    even 3 (1 ∷ 3 ∷ [])
    ∷ even 5 (1 ∷ 5 ∷ [])
    ∷ even 15 (1 ∷ 6 ∷ 10 ∷ 15 ∷ [])
    ∷ even 17 (1 ∷ 17 ∷ [])
    ∷ even 51 (1 ∷ 18 ∷ 34 ∷ 51 ∷ [])
    ∷ even 85 (1 ∷ 35 ∷ 51 ∷ 85 ∷ [])
    ∷ even 255 (1 ∷ 51 ∷ 85 ∷ 120 ∷ 136 ∷ 171 ∷ 205 ∷ 255 ∷ [])
    ∷ []

-- every line of the table holds
pub sizes_hold : All Says sizes
unfolding Says sizes even_sizes is_even passing_from
sizes_hold = (refl, (refl, (refl, (refl, (refl, (refl, (refl, tt)))))))
