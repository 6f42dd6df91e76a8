-- The symbols of a field of q elements: the numbers below q.
use Rattle.std.specs.Prelude.{◌≡◌, true, List, map, ℕ, ltb}

abbrev pub Symbol : ℕ → Type 0
Symbol q = (x : ℕ) × (ltb x q ≡ true)

-- the numbers of a list of symbols
abbrev pub numbers : (q : ℕ) → List (Symbol q) → List ℕ
numbers q us = map (λ x. x.0) us
