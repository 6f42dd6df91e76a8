-- Tests of lists of numbers.
use Rattle.std.specs.Prelude.{Bool, true, false, ◌&&◌, ◌||◌, not, List, [], ◌∷◌, ℕ, eqb, ltb}

-- every number is below a
unfoldable pub all_below : ℕ → List ℕ → Bool
all_below a [] = true
all_below a (x ∷ xs) = ltb x a && all_below a xs

-- x is in the list
unfoldable pub is_in : ℕ → List ℕ → Bool
is_in x [] = false
is_in x (x' ∷ xs) = eqb x x' || is_in x xs

-- no number stands twice
unfoldable pub distinct : List ℕ → Bool
distinct [] = true
distinct (x ∷ xs) = not (is_in x xs) && distinct xs
