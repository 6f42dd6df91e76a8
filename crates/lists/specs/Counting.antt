-- The numbers of a stretch that pass a test, how many they are, and at how many places two lists differ.
use Rattle.std.specs.Prelude.{Bool, not, List, [], ◌∷◌, ◌++◌, ℕ, zero, suc, ◌+◌, eqb, length, get_or}
use Rattle.lists.specs.Choice.{pick, when}

-- of the `left` numbers from i on, those that pass
unfoldable pub count_from : ℕ → ℕ → (ℕ → Bool) → ℕ
count_from zero i test = 0
count_from (suc left) i test = when (test i) 1 + count_from left (i + 1) test

-- the same as a list
unfoldable pub passing_from : ℕ → ℕ → (ℕ → Bool) → List ℕ
passing_from zero i test = []
passing_from (suc left) i test = pick (test i) (i ∷ []) [] ++ passing_from left (i + 1) test

-- the places of a list at which another holds another number
unfoldable pub differ : List ℕ → List ℕ → ℕ
differ xs xs' = count_from (length xs) 0 (λ i. not (eqb (get_or xs i 0) (get_or xs' i 0)))

-- how often a number stands in a list
unfoldable pub occurrences : ℕ → List ℕ → ℕ
occurrences x [] = 0
occurrences x (x' ∷ xs) = when (eqb x' x) 1 + occurrences x xs
