-- Rows of symbols, one for each lane. A field is its prime p, or 0 for the field of 256 elements.
use Rattle.std.specs.Prelude.{ℕ, List, length, slice_index}
use Rattle.lists.specs.Rows.{from}
use Rattle.field.specs.Fields.{add, mul}

-- each lane by f, which is told its number
unfoldable pub lanewise : (ℕ → ℕ → ℕ) → List ℕ → List ℕ
lanewise f acc = from (λ t. f t (slice_index acc t)) 0 (length acc)

-- each symbol of the row times c, added to acc
unfoldable pub add_scaled : ℕ → ℕ → List ℕ → List ℕ → List ℕ
add_scaled p c row acc = lanewise (λ t y. add p (mul p (slice_index row t) c) y) acc
