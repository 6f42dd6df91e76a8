-- One lane: its symbols at the places of their rows' shifts, and the order of the nodes among the sums.
use Rattle.std.specs.Prelude.{List, [], ◌∷◌, ℕ, ◌+◌, length, get_or, set}
use Rattle.lists.specs.Rows.{from}
use Rattle.generator.specs.Shifts.{negative}

-- xs with each symbol put at the place that the list of shifts names for it, and again n places further, the first being number r
unfoldable pub placed_from : ℕ → ℕ → List ℕ → List ℕ → List ℕ → List ℕ
placed_from n r ss [] xs = xs
placed_from n r ss (m ∷ ms) xs = placed_from n (r + 1) ss ms (set (set xs (get_or ss r 0) m) (get_or ss r 0 + n) m)

-- sums from each place, one for each node, in the order of the nodes: node j's is the one from place −j on
unfoldable pub by_node : List ℕ → List ℕ
by_node xs = from (λ j. get_or xs (negative (length xs) j) 0) 0 (length xs)
