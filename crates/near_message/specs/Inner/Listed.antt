-- Listed symbols, and the lane of n nodes that they make.
use Rattle.std.specs.Prelude.{◌≡◌, true, not, List, [], ◌∷◌, ℕ, ◌≤◌, length, set}
use Rattle.lists.specs.Counting.{passing_from}
use Rattle.lists.specs.Numbers.{all_below, is_in, distinct}
use Rattle.lists.specs.Padded.{zeros}
use Rattle.generator.specs.declared.Header.{Header}
use Rattle.generator.specs.Records.{size}

-- the nodes that are not listed, lowest first
unfoldable pub unlisted : Header → List ℕ → List ℕ
unlisted h nodes = passing_from h.n 0 (λ j. not (is_in j nodes))

-- a lane with the symbols ys put at the nodes js
unfoldable pub put_at : List ℕ → List ℕ → List ℕ → List ℕ
put_at [] ys ws = ws
put_at (j ∷ js) [] ws = ws
put_at (j ∷ js) (y ∷ ys) ws = put_at js ys (set ws j y)

-- the lane of the listed symbols, with 0 at the nodes that are not listed
unfoldable pub placed_lane : Header → List ℕ → List ℕ → List ℕ
placed_lane h nodes ys = put_at nodes ys (zeros h.n)

-- s distinct nodes, k of them or more, and a symbol for each
pub record ListedSymbols (h : Header) (nodes ys : List ℕ) : Type 0 where
  pub low : all_below h.n nodes ≡ true
  pub different : distinct nodes ≡ true
  pub enough : h.k ≤ length nodes
  pub long : length ys ≡ length nodes
  pub symbols : all_below (size h) ys ≡ true
