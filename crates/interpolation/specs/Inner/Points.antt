-- Lists of points: powers of the root, symbols of a field.
use Rattle.std.specs.Prelude.{◌≡◌, true, List, map, ℕ, ◌+◌, ◌≤◌, length}
use Rattle.lists.specs.Numbers.{all_below}
use Rattle.field.specs.Fields.{size_of, power}

-- at most 255 symbols of the field that p names
pub record SymbolList (p : ℕ) (xs : List ℕ) : Type 0 where
  pub below : all_below (size_of p) xs ≡ true
  pub short : length xs ≤ 255

-- root^(j + e) for each j of the list
unfoldable pub points_of : ℕ → ℕ → ℕ → List ℕ → List ℕ
points_of p root e js = map (λ j. power p root (j + e)) js
