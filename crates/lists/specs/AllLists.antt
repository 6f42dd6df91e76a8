-- The search through all lists of n numbers below q.
use Rattle.std.specs.Prelude.{Bool, not, List, [], ◌∷◌, ℕ, zero, suc, ltb}
use Rattle.lists.specs.Search.{first_false}

-- one of the lists passes
unfoldable pub any_list : ℕ → ℕ → (List ℕ → Bool) → Bool
any_list q zero test = test []
any_list q (suc count) test = ltb (first_false q 0 (λ x. not (any_list q count (λ xs. test (x ∷ xs))))) q

-- the first that does, in the order of dictionaries
unfoldable pub first_list : ℕ → ℕ → (List ℕ → Bool) → List ℕ
first_list q zero test = []
first_list q (suc count) test = let x = first_false q 0 (λ x. not (any_list q count (λ xs. test (x ∷ xs)))) in x ∷ first_list q count (λ xs. test (x ∷ xs))
