-- Sums of products over two lists of symbols.
use Rattle.std.specs.Prelude.{List, [], ◌∷◌, ℕ}
use Rattle.field.specs.Fields.{add, mul}

-- the sum of the products of two lists, as far as both go
unfoldable pub dot : ℕ → List ℕ → List ℕ → ℕ
dot p [] ws = 0
dot p (y ∷ ys) [] = 0
dot p (y ∷ ys) (w ∷ ws) = add p (mul p y w) (dot p ys ws)
