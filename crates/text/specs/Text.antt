-- Texts as lists of bytes: 32 is the space, 10 the line feed, 48 to 57 are the digits 0 to 9.
use Rattle.std.specs.Prelude.{List, [], ◌∷◌, ◌++◌, ℕ, ◌+◌, ◌/◌, ◌%◌, ltb}
use Prim.Native.Char.{code}
use Prim.Native.String.{String, [], ◌∷◌}
use Rattle.lists.specs.Choice.{pick}

-- the codes of a text's characters
unfoldable pub ascii : String → List ℕ
ascii [] = []
ascii (x ∷ xs) = code x ∷ ascii xs

abbrev pub digit : ℕ → ℕ
digit x = 48 + x

-- a number below 100,000 in base ten, with no zeros in front
unfoldable pub decimal : ℕ → List ℕ
decimal x =
    pick (ltb x 10)
    (digit x ∷ [])
    (pick (ltb x 100)
    (digit (x / 10) ∷ digit (x % 10) ∷ [])
    (pick (ltb x 1000)
    (digit (x / 100) ∷ digit (x / 10 % 10) ∷ digit (x % 10) ∷ [])
    (pick (ltb x 10000)
    (digit (x / 1000) ∷ digit (x / 100 % 10) ∷ digit (x / 10 % 10) ∷ digit (x % 10) ∷ [])
    (digit (x / 10000) ∷ digit (x / 1000 % 10) ∷ digit (x / 100 % 10) ∷ digit (x / 10 % 10) ∷ digit (x % 10) ∷ []))))

-- a field: a space and a number
unfoldable pub field : ℕ → List ℕ
field x = 32 ∷ decimal x

-- the fields of a line, and its line feed
unfoldable pub fields : List ℕ → List ℕ
fields [] = 10 ∷ []
fields (x ∷ xs) = field x ++ fields xs

-- a line: a word and fields
unfoldable pub line : List ℕ → List ℕ → List ℕ
line word xs = word ++ fields xs
