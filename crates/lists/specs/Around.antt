-- Lists that are gone round: after the last element comes the first.
use Rattle.std.specs.Prelude.{List, ℕ, ◌%◌, length, get_or}

-- the element at place i
abbrev pub around : List ℕ → ℕ → ℕ
around xs i = get_or xs (i % length xs) 0
