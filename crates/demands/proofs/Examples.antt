-- Changes of two symbols that reach the fewest and the most nodes.
use mathlib.Core.Path.{◌≡◌, refl}
use mathlib.Core.List.{List, [], ◌∷◌}
use Prim.Native.Nat.{ℕ}
use Rattle.lists.specs.Rows.{from}
use Rattle.lists.specs.Counting.{count_from, differ}
use Rattle.lists.proofs.All.{All}
use Rattle.field.specs.Fields.{size_of, add, sub, mul, power}
use Rattle.field.specs.Kinds.{modulus}
use Rattle.generator.specs.Records.{header_of, distance}
use Rattle.generator.specs.Shifts.{gcd_from, gcd, shifts_from, is_even, even_shifts, shifts_of}
use Rattle.generator.specs.Generator.{base_from, base_at, entry_at, entry}
use Rattle.generator.specs.Codewords.{node_from, node_of, encoding}

-- a record and two messages: at how many symbols they differ, and at how many nodes
pub data Case : Type 0 where
  changes : (rec ms us : List ℕ) (symbols nodes : ℕ) → Case

unfoldable pub Says : Case → Type 0
Says (changes rec ms us symbols nodes) = (differ ms us ≡ symbols) × (differ (encoding (header_of rec) ms) (encoding (header_of rec) us) ≡ nodes)

-- n = 6, k = 4: n − k + 1 = 3 nodes, and 2·3 nodes; n = 6, k = 3: n nodes
unfoldable pub examples : List Case
examples =
    changes (1 ∷ 7 ∷ 3 ∷ 6 ∷ 4 ∷ []) (1 ∷ 1 ∷ 0 ∷ 0 ∷ []) (2 ∷ 5 ∷ 0 ∷ 0 ∷ []) 2 3
    ∷ changes (1 ∷ 7 ∷ 3 ∷ 6 ∷ 4 ∷ []) (1 ∷ 1 ∷ 0 ∷ 0 ∷ []) (2 ∷ 1 ∷ 1 ∷ 0 ∷ []) 2 6
    ∷ changes (1 ∷ 7 ∷ 3 ∷ 6 ∷ 3 ∷ []) (1 ∷ 0 ∷ 2 ∷ []) (2 ∷ 0 ∷ 3 ∷ []) 2 6
    ∷ []

pub examples_hold : All Says examples
unfolding Says examples header_of distance is_even even_shifts shifts_of shifts_from gcd gcd_from entry entry_at base_at base_from node_from node_of encoding differ count_from from modulus size_of add sub mul power
examples_hold = ((refl, refl), ((refl, refl), ((refl, refl), tt)))
