-- Symbols of w bytes, high byte first.
use Rattle.std.specs.Prelude.{List, [], ◌∷◌, ◌++◌, ℕ, zero, suc, ◌+◌, ◌*◌, ◌/◌, ◌%◌, length, take, drop}
use Rattle.lists.specs.Rows.{from}

-- the number whose digits to the base 256 are those of a and then the listed
unfoldable pub value_from : ℕ → List ℕ → ℕ
value_from a [] = a
value_from a (x ∷ xs) = value_from (a * 256 + x) xs

-- symbol i of a buffer
unfoldable pub symbol_at : ℕ → List ℕ → ℕ → ℕ
symbol_at w s i = value_from 0 (take w (drop (i * w) s))

-- all symbols of a buffer
unfoldable pub symbols_of : ℕ → List ℕ → List ℕ
symbols_of w s = from (symbol_at w s) 0 (length s / w)

-- the bytes of a symbol: its last digits to the base 256, and what is left before them
unfoldable pub symbol_bytes : ℕ → ℕ → List ℕ
symbol_bytes zero x = []
symbol_bytes (suc zero) x = x ∷ []
symbol_bytes (suc (suc w)) x = symbol_bytes (suc w) (x / 256) ++ (x % 256 ∷ [])

-- the bytes of a list of symbols
unfoldable pub bytes_of : ℕ → List ℕ → List ℕ
bytes_of w [] = []
bytes_of w (x ∷ xs) = symbol_bytes w x ++ bytes_of w xs
