-- Lists by a function of the index, of elements and of rows; the numbers of a stretch.
use Rattle.std.specs.Prelude.{List, [], ◌∷◌, ◌++◌, ℕ, zero, suc, ◌+◌}

-- `count` values of g, from i on
unfoldable pub from : {A : Type 0} → (ℕ → A) → ℕ → ℕ → List A
from g i zero = []
from g i (suc count) = g i ∷ from g (i + 1) count

-- `count` rows, from row i on, one after the other
unfoldable pub rows_from : (ℕ → List ℕ) → ℕ → ℕ → List ℕ
rows_from g i zero = []
rows_from g i (suc count) = g i ++ rows_from g (i + 1) count

-- the `count` numbers from i on
abbrev pub range : ℕ → ℕ → List ℕ
range i count = from (λ x. x) i count
