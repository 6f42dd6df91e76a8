-- Marks of lanes.
use Rattle.std.specs.Prelude.{Bool, true, ◌&&◌, List, ℕ, zero, suc, eqb}
use Rattle.lists.specs.Choice.{pick}
use Rattle.lists.specs.Rows.{from}

-- the first m sums are 0
unfoldable pub all_zero : ℕ → (ℕ → ℕ) → Bool
all_zero zero f = true
all_zero (suc m) f = eqb (f m) 0 && all_zero m f

-- 0 for a lane whose first m sums are 0, 1 for any other; f i t is sum i of lane t
unfoldable pub zero_marks : ℕ → ℕ → (ℕ → ℕ → ℕ) → List ℕ
zero_marks m l f = from (λ t. pick (all_zero m (λ i. f i t)) 0 1) 0 l
