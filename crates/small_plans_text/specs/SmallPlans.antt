-- The text of the small plans: the line `p root n k` of every accepted record of kind 1 with p up to 31.
use Rattle.std.specs.Prelude.{List, [], ◌∷◌, ℕ, eqb}
use Rattle.lists.specs.Choice.{pick}
use Rattle.lists.specs.Rows.{rows_from}
use Rattle.generator.specs.Records.{record_fault}
use Rattle.text.specs.Text.{decimal, line}

-- the line of the record 1 p root n k where no number turns it away, else nothing
unfoldable pub plan_line : ℕ → ℕ → ℕ → ℕ → List ℕ
plan_line p root n k = pick (eqb (record_fault (1 ∷ p ∷ root ∷ n ∷ k ∷ [])) 0) (line (decimal p) (root ∷ n ∷ k ∷ [])) []

-- the lines with this p, root and k: n is any byte
unfoldable pub size_lines : ℕ → ℕ → ℕ → List ℕ
size_lines p root k = rows_from (λ n. plan_line p root n k) 0 256

-- the lines with this p and root: k is any byte
unfoldable pub root_lines : ℕ → ℕ → List ℕ
root_lines p root = rows_from (size_lines p root) 0 256

-- the lines with this p: the root is any byte
unfoldable pub field_lines : ℕ → List ℕ
field_lines p = rows_from (root_lines p) 0 256

-- all lines, by p from 0 to 31, then by the root, then by k
unfoldable pub small_plans : List ℕ
small_plans = rows_from field_lines 0 32
