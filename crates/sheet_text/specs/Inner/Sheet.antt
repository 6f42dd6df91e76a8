-- The sheet as the functions write it.
use Rattle.std.specs.Prelude.{List, ◌++◌, ℕ}
use Rattle.lists.specs.Rows.{rows_from}
use Rattle.plan.specs.declared.Plan.{Plan}
use Rattle.sheet_text.specs.Sheet.{numbers_line, row_line}

-- the sheet of a plan: the line of its numbers, and its k rows
unfoldable pub sheet_of : Plan → List ℕ
sheet_of p = numbers_line p ++ rows_from (row_line p) 0 p.k
