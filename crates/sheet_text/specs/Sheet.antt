-- The text of a plan sheet.
use Rattle.std.specs.Prelude.{Ok, Err}
use Rattle.generator.specs.Answers.{Answer}
use Rattle.generator.specs.declared.Header.{Header}
use Rattle.std.specs.Prelude.{List, [], ◌∷◌, ◌++◌, ℕ, eqb, get_or}
use Rattle.lists.specs.Choice.{pick}
use Rattle.lists.specs.Rows.{from, rows_from}
use Rattle.plan.specs.declared.Plan.{Plan}
use Rattle.generator.specs.Records.{distance, low_reads, high_reads}
use Rattle.generator.specs.Shifts.{shifts, firsts}
use Rattle.generator.specs.Generator.{entry}
use Rattle.plan.specs.Plans.{entry_in}
use Rattle.text.specs.Text.{ascii, line}

-- the two roundings of k·d / n, the lower first; one number where they are equal
unfoldable pub roundings : ℕ → ℕ → List ℕ
roundings low high = pick (eqb low high) (low ∷ []) (low ∷ high ∷ [])

-- the line of a plan's numbers
unfoldable pub numbers_line : Plan → List ℕ
numbers_line plan = line (ascii "plan") (plan.n ∷ plan.k ∷ plan.d ∷ roundings plan.low plan.high)

-- the line of row r: its number, its shift, its first node, its n entries
unfoldable pub row_line : Plan → ℕ → List ℕ
row_line plan r = line (ascii "row") (r ∷ get_or plan.shifts r 0 ∷ get_or plan.firsts r 0 ∷ from (entry_in plan r) 0 plan.n)

-- the sheet of a record, by the definitions of the generator
unfoldable pub sheet_for : Answer Header → List ℕ
sheet_for (Err f) = line (ascii "refused") (f ∷ [])
sheet_for (Ok h) =
    line (ascii "plan") (h.n ∷ h.k ∷ distance h ∷ roundings (low_reads h) (high_reads h))
    ++ rows_from (λ r. line (ascii "row") (r ∷ get_or (shifts h) r 0 ∷ get_or (firsts h) r 0 ∷ from (entry h r) 0 h.n)) 0 h.k
